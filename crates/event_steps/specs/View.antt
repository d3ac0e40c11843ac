-- A running system, as its callers see it.
use Rattle.std.specs.Prelude.{◌≡◌, ℕ, ◌-◌, ◌++◌, List, length, Option, Some, None, slice_get}
use Rattle.tier_device.specs.declared.media.Media.{Ghosts}
use Rattle.libfs.specs.client_log.View.{current_records}
use Rattle.libfs.specs.kernel_fs.KernelView.{KernelView}
use Rattle.libfs.specs.SealedRegion.{SealedRegionView}
use Rattle.libfs.specs.View.{ClientView}
use Rattle.libfs.specs.declared.life.Life.{Life}
use Rattle.event_steps.specs.declared.refusals.Refusals.{Refusals}

-- a client, the region that it sealed and handed over, until it takes that back, what the kernel refused it since its last reply, and how far its life has come
pub record SeatView (M : Type 0) : Type 0 where
  pub client : ClientView M
  pub away : Option (SealedRegionView M)
  pub refused : Refusals
  pub life : Life

-- the kernel, and clients 1 to 8 in their order
pub record SystemView (M : Type 0) : Type 0 where
  pub kernel : KernelView M
  pub seats : List (SeatView M)

-- a client's seat; clients are counted from 1
abbrev pub seat_of : {M : Type 0} → SystemView M → ℕ → Option (SeatView M)
seat_of w c = slice_get w.seats (c - 1)

-- a client has a seat, of which this holds
abbrev pub HasSeat : {M : Type 0} → SystemView M → ℕ → (SeatView M → Type 0) → Type 0
HasSeat {M} w c P = (s : SeatView M) × (seat_of w c ≡ Some s) × P s

-- how many records of a region that is away are digested; none where none is away
abbrev pub done_of : {M : Type 0} → Option (SealedRegionView M) → ℕ
done_of None = 0
done_of (Some a) = a.done

-- how many records of a client are not digested, of the region that it writes and of the one that is away
abbrev pub undigested_on : {M : Type 0} → Ghosts M → SeatView M → ℕ
undigested_on device s = length (s.client.sealed ++ current_records device s.client.log) - done_of s.away
