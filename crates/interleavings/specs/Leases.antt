-- How clients stand to inodes.
use Rattle.std.specs.Prelude.{◌&&◌, ℕ, Option, Some, None, if◌then◌else◌, nat_le}
use Rattle.posix_calls.specs.Operations.{is_client}
use Rattle.system_laws.specs.lease_manager.Passes.{lease_of}
use Rattle.system_laws.specs.lease_manager.declared.view.LeaseMode.{LeaseMode}
use Rattle.system_laws.specs.lease_manager.declared.view.LeaseMode.TheVariants.{Free}
use Rattle.system_laws.specs.event_steps.View.{SeatView, SystemView, seat_of}

-- the answer for a seat, and for none
abbrev pub slot_value : {M A : Type 0} → A → (SeatView M → A) → Option (SeatView M) → A
slot_value none f None = none
slot_value none f (Some s) = f s

-- the answer for a client's seat, and for a number that is no client's
abbrev pub at_client : {M A : Type 0} → SystemView M → ℕ → A → (SeatView M → A) → A
at_client w client none f = if is_client client then slot_value none f (seat_of w client) else none

-- how a client stands to an inode
abbrev pub lease_in : {M : Type 0} → SystemView M → ℕ → ℕ → LeaseMode
lease_in w client inode = at_client w client Free (λ s. if nat_le 1 inode && nat_le inode 1024 then lease_of s.client.pass inode else Free)
