-- What an event makes of a client's leases.
use Rattle.std.specs.Prelude.{◌≡◌, ◌⊎◌, ◌-◌, ◌/◌, ℕ}
use Rattle.libfs.specs.client_plan.declared.need.Mode.{Mode}
use Rattle.libfs.specs.client_plan.declared.need.Mode.TheVariants.{Write}
use Rattle.libfs.specs.lease_manager.Passes.{PassView, lease_of, with_event, with_lease}
use Rattle.libfs.specs.lease_manager.Words.{asked_bit, asked_word}
use Rattle.libfs.specs.lease_manager.declared.view.Event.TheVariants.{Asked}
use Rattle.libfs.specs.lease_manager.declared.view.LeaseMode.{LeaseMode}
use Rattle.libfs.specs.lease_manager.declared.view.LeaseMode.TheVariants.{Writing}
use Rattle.libfs.specs.LeaseCalls.{HasGiven, ShowsBar, mode_of, refused_pass}
use Rattle.event_steps.specs.declared.outcome.Outcome.{Outcome}
use Rattle.event_steps.specs.declared.outcome.Outcome.TheVariants as outcomes
use Rattle.event_steps.specs.declared.outcome.Refusal.TheVariants as refusals
use Rattle.event_steps.specs.View.{SeatView}

-- Only the client's pass has changed.
abbrev pub HasPass : {M : Type 0} → SeatView M → PassView → SeatView M → Type 0
HasPass old pass new = new ≡ record old { client = record old.client { pass = pass } }

-- A lease was tried: it is held now, or the number found in the inode's word showed another client that is in the way.
abbrev pub IsTried : {M : Type 0} → SeatView M → ℕ → Mode → LeaseMode → Outcome → SeatView M → Type 0
IsTried old i mode lease o new = ((o ≡ outcomes.Stepped) × (lease_of new.client.pass i ≡ lease) × HasPass old (with_lease old.client.pass i lease) new)
    ⊎ ((found : ℕ) × (o ≡ outcomes.Refused refusals.Busy) × ShowsBar mode old.client.pass.part.place found × HasPass old (refused_pass old.client.pass i mode found) new)

abbrev pub IsLeased : {M : Type 0} → SeatView M → ℕ → Mode → Outcome → SeatView M → Type 0
IsLeased old i mode o new = IsTried old i mode (mode_of mode) o new

abbrev pub IsRaised : {M : Type 0} → SeatView M → ℕ → Outcome → SeatView M → Type 0
IsRaised old i o new = IsTried old i Write Writing o new

-- It was given back, and what was known of the inode is forgotten.
pub record IsGiven {M : Type 0} (old : SeatView M) (i : ℕ) (o : Outcome) (new : SeatView M) : Type 0 where
  pub told : o ≡ outcomes.Stepped
  pub given : HasGiven old.client i new.client
  pub rest : new ≡ record old { client = new.client }

-- Another client was asked for it.
abbrev pub IsAskedBack : {M : Type 0} → SeatView M → ℕ → ℕ → Outcome → SeatView M → Type 0
IsAskedBack old i of o new = (o ≡ outcomes.Stepped) × HasPass old (with_event old.client.pass (Asked (asked_word of ((i - 1) / 64)) (asked_bit i))) new
