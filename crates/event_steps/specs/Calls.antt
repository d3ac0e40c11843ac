-- What an event makes of a client's call.
use Rattle.std.specs.Prelude.{◌≡◌, ◌⊎◌, ℕ, List, true, false, Option, IfSome, is_some}
use Rattle.tier_device.specs.declared.media.Media.{Ghosts}
use Rattle.posix_calls.specs.declared.call.Call.{Call}
use Rattle.posix_calls.specs.declared.call.Reply.{Reply}
use Rattle.posix_calls.specs.declared.call.Reply.TheVariants as replies
use Rattle.posix_calls.specs.declared.errno.Errno.TheVariants.{IoError}
use Rattle.libfs.specs.update_log.Stage.{next, progress}
use Rattle.libfs.specs.update_log.declared.stage.Progress.TheVariants.{Going, Appended}
use Rattle.libfs.specs.client_log.Calls.{IsMovedOnce}
use Rattle.libfs.specs.client_log.Counts.{AreLeft, CountOf}
use Rattle.libfs.specs.client_log.View.{current_records}
use Rattle.libfs.specs.Denial.{errno_of}
use Rattle.libfs.specs.ClientHoldings.{outcome_for}
use Rattle.libfs.specs.CallStart.{HasStarted, IsOutOfMemory}
use Rattle.libfs.specs.CallStep.{HasFailed, HasReplied, IsGoing, call_answer}
use Rattle.libfs.specs.View.{ClientView, pass_answered}
use Rattle.libfs.specs.declared.denial.Denied.{Denied}
use Rattle.libfs.specs.declared.now.Now.{Now}
use Rattle.libfs.specs.declared.now.Now.TheVariants as now
use Rattle.event_steps.specs.declared.outcome.Outcome.{Outcome}
use Rattle.event_steps.specs.declared.outcome.Outcome.TheVariants as outcomes
use Rattle.event_steps.specs.Outcomes.{refused_then, start_outcome, step_outcome}
use Rattle.event_steps.specs.View.{SeatView}

-- The call was started: it was answered, needs something, or its record is begun.
pub record IsStarted {M : Type 0} (device : Ghosts M) (old : SeatView M) (call : Call) (o : Outcome) (new : SeatView M) : Type 0 where
  pub answer : Now
  pub told : o ≡ start_outcome answer
  pub failed : old.client.log.failed ≡ true → (answer ≡ now.Done (replies.Failed IoError)) × (new.client ≡ record old.client { pass = pass_answered old.client.pass })
  pub started : old.client.log.failed ≡ false → HasStarted device old.client (outcome_for device old.client call) answer new.client ⊎ IsOutOfMemory device old.client call answer new.client
  pub rest : new ≡ record old { client = new.client; refused = refused_then o old.refused }

-- At each moment of an event what counted of a client's regions before it counts, with the begun record or without.
abbrev pub CountsOn : {M : Type 0} → Ghosts M → ClientView M → ClientView M → Type 0
CountsOn device old new = (regions : ℕ → List ℕ) → AreLeft device old.log new.log regions → CountOf old.log.generation (is_some old.log.other) (current_records device old.log) old.log.current.begun regions

-- One device call was made for the begun call: the fourth that succeeds answers it, and so does one that fails.
pub record IsStepped {M : Type 0} (device : Ghosts M) (old : SeatView M) (o : Outcome) (new : SeatView M) : Type 0 where
  pub answer : Option Reply
  pub told : o ≡ step_outcome answer
  pub any_moment : CountsOn device old.client new.client
  pub going : new.client.log.failed ≡ false → progress old.client.log.current.stage ≡ Going → IsGoing device old.client answer new.client
  pub replied : new.client.log.failed ≡ false → progress old.client.log.current.stage ≡ Appended → IfSome old.client.begun (λ b. HasReplied device old.client b answer new.client)
  pub failed : new.client.log.failed ≡ true → HasFailed device old.client answer new.client
  pub stage : new.client.log.failed ≡ false → new.client.log.current.stage ≡ next old.client.log.current.stage
  pub moved : old.client.log.failed ≡ false → IsMovedOnce device old.client.log.current new.client.log.current (call_answer new.client.log.failed)
  pub stays_failed : old.client.log.failed ≡ true → new.client.log ≡ old.client.log
  pub log : new.client.log ≡ record old.client.log { current = new.client.log.current; failed = new.client.log.failed }
  pub rest : new ≡ record old { client = new.client; refused = refused_then o old.refused }

-- The call was given up for what the kernel refused.
pub record IsDenied {M : Type 0} (old : SeatView M) (why : Denied) (o : Outcome) (new : SeatView M) : Type 0 where
  pub told : o ≡ outcomes.Reply (replies.Failed (errno_of why))
  pub rest : new ≡ record old { client = record old.client { pass = pass_answered old.client.pass }; refused = refused_then o old.refused }
