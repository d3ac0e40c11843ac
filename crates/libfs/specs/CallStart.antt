-- What becomes of a client as a call is started.
use Rattle.std.specs.Prelude.{◌≡◌, ℕ, ◌+◌, ◌≤◌, ◌||◌, Bool, true, false, length, Option, Some, IsSome}
use Rattle.std.specs.Option.{ForSome}
use Rattle.tier_device.specs.declared.media.Media.{Ghosts}
use Rattle.posix_calls.specs.declared.call.Call.{Call}
use Rattle.posix_calls.specs.declared.call.Reply.{Reply}
use Rattle.posix_calls.specs.declared.call.Reply.TheVariants as replies
use Rattle.posix_calls.specs.declared.errno.Errno.TheVariants.{NoMemory}
use Rattle.lease_manager.specs.file_graph.Numbers.{is_inode}
use Rattle.lease_manager.specs.log_record.Grammar.{IsRecord, record_bytes}
use Rattle.lease_manager.specs.log_record.declared.format.Record.{Record}
use Rattle.client_log.specs.update_log.declared.stage.Stage.TheVariants as stages
use Rattle.client_log.specs.call_effects.Knowledge.{part_of}
use Rattle.client_view.specs.client_plan.declared.outcome.DescriptorChange.{DescriptorChange}
use Rattle.client_view.specs.client_plan.declared.outcome.Outcome.{Outcome}
use Rattle.client_view.specs.client_plan.declared.outcome.Outcome.TheVariants as outcomes
use Rattle.client_view.specs.client_plan.Memory.{wants_memory}
use Rattle.client_view.specs.client_plan.CallPlan.{OpensInRange}
use Rattle.client_log.specs.Steps.{most_of}
use Rattle.client_log.specs.Turns.{turn_of, record_begun}
use Rattle.client_view.specs.AfterRecord.{with_change, with_made}
use Rattle.libfs.specs.declared.begun_record.Begun.{Begun}
use Rattle.libfs.specs.declared.now.Now.{Now}
use Rattle.libfs.specs.declared.now.Now.TheVariants as now
use Rattle.libfs.specs.View.{ClientView, pass_answered}
use Rattle.lease_manager.specs.RecordCounts.{HasNoted, is_touched}
use Rattle.lease_manager.specs.PassLeases.{writes}
use Rattle.libfs.specs.ClientHoldings.{holdings_of, known_to, outcome_for}

-- What a record asks for as it is begun.
pub record IsReadyToBegin {M : Type 0} (device : Ghosts M) (v : ClientView M) (entry : Record) (made : Option ℕ) (change : Option DescriptorChange) : Type 0 where
  pub spelled : IsRecord entry
  pub makes : ForSome made (λ n. is_inode n ≡ true)
  pub opens : ForSome change OpensInRange
  pub enough : entry.units ≤ v.spare
  pub held : (i : ℕ) → is_touched entry.effects i ≡ true → writes v.pass i ≡ true
  pub known : (i : ℕ) → is_touched entry.effects i ≡ true → IsSome ((with_made (known_to v) made).copies i)
  pub most : ℕ
  pub room : most_of device v.log ≡ Some most
  pub fits : length (record_bytes entry) ≤ most

-- what a client has to have to go on with what a call comes to
abbrev pub MayGoOn : {M : Type 0} → Ghosts M → ClientView M → Outcome → Type 0
MayGoOn device v (outcomes.Reply reply change) = ForSome change OpensInRange
MayGoOn device v (outcomes.Need need) = Unit {0}
MayGoOn device v (outcomes.Log entry reply made change) = IsReadyToBegin device v entry made change

-- It was answered at once: of its descriptors this one changed, if one does, and nothing else.
pub record HasAnswered {M : Type 0} (old : ClientView M) (change : Option DescriptorChange) (new : ClientView M) : Type 0 where
  pub knows_then : known_to new ≡ with_change (known_to old) change
  pub numbers : new.copies.numbers ≡ old.copies.numbers
  pub rest : new ≡ record old { pass = pass_answered old.pass; copies = new.copies }

-- Its record is begun: the log has begun it, the pass counts it on each inode that it touches, and its units are spare no longer.
pub record HasBegun {M : Type 0} (device : Ghosts M) (old : ClientView M) (entry : Record) (reply : Reply) (made : Option ℕ) (change : Option DescriptorChange) (new : ClientView M) : Type 0 where
  pub begun : Begun
  pub is_begun : new.begun ≡ Some begun
  pub entry_is : begun.change.logged ≡ entry
  pub made_is : begun.change.made ≡ made
  pub change_is : begun.change.descriptor ≡ change
  pub reply_is : begun.reply ≡ reply
  pub turn : turn_of device new.log ≡ record_begun (turn_of device old.log) entry
  pub log : new.log ≡ record old.log { current = new.log.current }
  -- no device call of the append is made yet
  pub stage : new.log.current.stage ≡ stages.Begun
  pub end : new.log.current.end ≡ old.log.current.end
  pub media : new.log.current.media ≡ old.log.current.media
  pub noted : HasNoted old.pass entry.effects new.pass
  pub paid : new.spare + entry.units ≡ old.spare
  pub rest : new ≡ record old { pass = new.pass; log = new.log; spare = new.spare; begun = new.begun }

-- It is what the call comes to.
abbrev pub HasStarted : {M : Type 0} → Ghosts M → ClientView M → Outcome → Now → ClientView M → Type 0
HasStarted device old (outcomes.Reply reply change) answer new = (answer ≡ now.Done reply) × HasAnswered old change new
HasStarted device old (outcomes.Need need) answer new = (answer ≡ now.Need need) × (new ≡ old)
HasStarted device old (outcomes.Log entry reply made change) answer new = (answer ≡ now.Pending) × HasBegun device old entry reply made change new

-- whether a call comes to a record
abbrev pub is_logged : Outcome → Bool
is_logged (outcomes.Reply reply change) = false
is_logged (outcomes.Need need) = false
is_logged (outcomes.Log entry reply made change) = true

-- It was refused for want of memory, which was wanted as it was planned or for its record, and nothing has changed.
pub record IsOutOfMemory {M : Type 0} (device : Ghosts M) (old : ClientView M) (call : Call) (answer : Now) (new : ClientView M) : Type 0 where
  pub told : answer ≡ now.Done (replies.Failed NoMemory)
  pub wanted : (wants_memory (part_of (known_to old)) (holdings_of device old).own call || is_logged (outcome_for device old call)) ≡ true
  pub same : new ≡ record old { pass = pass_answered old.pass }
