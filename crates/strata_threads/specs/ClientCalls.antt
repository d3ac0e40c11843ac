-- What a client keeps while it waits, and how its call is answered.
use Rattle.std.specs.Prelude.{◌≡◌, ◌⊎◌, ℕ, true, Some}
use Rattle.atomic_table.specs.Seated.{TableId}
use Rattle.tier_device.specs.declared.media.Media.{Ghosts}
use Rattle.posix_calls.specs.declared.call.Call.{Call}
use Rattle.posix_calls.specs.declared.call.Reply.{Reply}
use Rattle.posix_calls.specs.declared.call.Reply.TheVariants as replies
use Rattle.posix_calls.specs.declared.errno.Errno.TheVariants.{IoError}
use Rattle.libfs.specs.lease_manager.Passes.{client_of}
use Rattle.libfs.specs.CallStart.{HasStarted, IsOutOfMemory}
use Rattle.libfs.specs.CallStep.{HasReplied, HasFailed}
use Rattle.libfs.specs.ClientHoldings.{outcome_for}
use Rattle.libfs.specs.View.{ClientView, pass_answered}
use Rattle.libfs.specs.declared.begun_record.Begun.{Begun}
use Rattle.libfs.specs.declared.now.Now.{Now}
use Rattle.libfs.specs.declared.now.Now.TheVariants as now

-- whose pass it is: the client's number, and the table of leases
abbrev pub owner_of : {M : Type 0} → ClientView M → ℕ × TableId
owner_of v = (client_of v.pass, v.pass.table)

-- It is the same client, with the same call begun.
abbrev pub KeepsCall : {M : Type 0} → ClientView M → ClientView M → Type 0
KeepsCall old new = (owner_of new ≡ owner_of old) × (new.begun ≡ old.begun) × (new.answered ≡ old.answered)

module _ {M : Type 0} (device : Ghosts M) where
  -- A call is started: its client's log has failed, the answer is the call's outcome, or memory is wanting.
  abbrev pub IsStarted : Call → ClientView M → Now → ClientView M → Type 0
  IsStarted call old answer new = ((old.log.failed ≡ true) × (answer ≡ now.Done (replies.Failed IoError)) × (new ≡ record old { pass = pass_answered old.pass }))
      ⊎ (HasStarted device old (outcome_for device old call) answer new ⊎ IsOutOfMemory device old call answer new)

  -- A device call of the begun record answers its call: the record is kept, or the device failed.
  abbrev pub IsEnded : ClientView M → Reply → ClientView M → Type 0
  IsEnded old reply new = ((b : Begun) × (old.begun ≡ Some b) × HasReplied device old b (Some reply) new) ⊎ HasFailed device old (Some reply) new

  -- so it is by one of its device calls, before which the same record was begun
  abbrev pub IsFinished : ClientView M → Reply → ClientView M → Type 0
  IsFinished begun reply new = (last : ClientView M) × (last.begun ≡ begun.begun) × IsEnded last reply new

  -- A call is answered as it is started, or its record was begun then, and is finished.
  abbrev pub IsAnswered : Call → Reply → ClientView M → Type 0
  IsAnswered call reply new = (old : ClientView M) × (IsStarted call old (now.Done reply) new ⊎ ((begun : ClientView M) × IsStarted call old now.Pending begun × IsFinished begun reply new))
