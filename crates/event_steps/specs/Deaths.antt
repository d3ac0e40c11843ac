-- What the events of a client's end make of its seat.
use Rattle.std.specs.Prelude.{◌≡◌, None, IsSome, OnOk, OnErr, Result, Ok, Err}
use Rattle.tier_device.specs.declared.media.Media.{Ghosts}
use Rattle.libfs.specs.client_log.Calls.{IsMovedOnce}
use Rattle.libfs.specs.client_log.declared.error.LogError.{LogError}
use Rattle.libfs.specs.kernel_fs.KernelView.{KernelView}
use Rattle.libfs.specs.update_log.declared.stage.Stage.TheVariants as stages
use Rattle.libfs.specs.ClientEnd.{Buries, IsRenewed, Settles}
use Rattle.libfs.specs.Lives.{life_buried, life_settled}
use Rattle.libfs.specs.declared.bury_error.BuryError.{BuryError}
use Rattle.libfs.specs.declared.bury_error.BuryError.TheVariants as burials
use Rattle.libfs.specs.declared.fate.Fate.{Fate}
use Rattle.libfs.specs.declared.life.Life.TheVariants as lives
use Rattle.event_steps.specs.Calls.{CountsOn}
use Rattle.event_steps.specs.Refusals.{no_refusals}
use Rattle.event_steps.specs.View.{SeatView}
use Rattle.event_steps.specs.declared.outcome.Outcome.{Outcome}
use Rattle.event_steps.specs.declared.outcome.Outcome.TheVariants as outcomes
use Rattle.event_steps.specs.declared.outcome.Refusal.TheVariants as refusals

-- It is dead, and nothing else has changed: leases, regions, descriptors and the begun call are what they were.
pub record IsDied {M : Type 0} (old : SeatView M) (o : Outcome) (new : SeatView M) : Type 0 where
  pub told : o ≡ outcomes.Died
  pub rest : new ≡ record old { life = lives.Dead }

-- ---- settled

abbrev pub settle_outcome : Result Fate LogError → Outcome
settle_outcome (Ok fate) = outcomes.Settled fate
settle_outcome (Err e) = outcomes.Refused refusals.DeviceFault

-- One device call was made where a call waited, and else none; the client is settled, or dead still where the device failed.
pub record IsSettledOn {M : Type 0} (device : Ghosts M) (old : SeatView M) (o : Outcome) (new : SeatView M) : Type 0 where
  pub any_moment : CountsOn device old.client new.client
  pub answer : Result Fate LogError
  pub told : o ≡ settle_outcome answer
  pub settles : Settles device old.client answer new.client
  pub moved : IsSome old.client.begun → IsMovedOnce device old.client.log.current new.client.log.current answer
  pub quiet : old.client.begun ≡ None → new.client.log ≡ old.client.log
  pub stage : IsSome old.client.begun → OnOk answer (new.client.log.current.stage ≡ stages.Resting)
  pub stage_failed : OnErr answer (new.client.log.current.stage ≡ stages.Failed)
  pub log : new.client.log ≡ record old.client.log { current = new.client.log.current; failed = new.client.log.failed }
  -- its leases stay, and the records of the region that is away
  pub leases : new.client.pass ≡ record old.client.pass { records = new.client.pass.records }
  pub sealed : new.client.sealed ≡ old.client.sealed
  pub rest : new ≡ record old { client = new.client; life = life_settled answer }

-- ---- buried

abbrev pub bury_outcome : Result (Unit {0}) BuryError → Outcome
bury_outcome (Ok done) = outcomes.Buried
bury_outcome (Err (burials.NotDigested count)) = outcomes.Refused (refusals.NotDigested count)
bury_outcome (Err burials.KernelFailed) = outcomes.Refused refusals.KernelFailed

-- It is buried, or it is refused with nothing changed.
pub record IsBuriedOn {M : Type 0} (device : Ghosts M) (k : KernelView M) (old : SeatView M) (o : Outcome) (new : SeatView M) (after : KernelView M) : Type 0 where
  pub answer : Result (Unit {0}) BuryError
  pub told : o ≡ bury_outcome answer
  pub buries : Buries device device k old.client answer new.client after
  pub rest : new ≡ record old { client = new.client; life = life_buried old.life answer }

-- ---- joined

-- A new client has the seat: it lives, and what the dead one was refused is forgotten.
pub record IsJoined {M : Type 0} (old : SeatView M) (o : Outcome) (new : SeatView M) : Type 0 where
  pub told : o ≡ outcomes.Joined
  pub renewed : IsRenewed old.client new.client
  pub rest : new ≡ record old { client = new.client; refused = no_refusals; life = lives.Alive }
