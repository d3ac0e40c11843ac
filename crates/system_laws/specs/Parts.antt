-- The parts of a running system: part 0 is the shared medium, and part 2c - 1 + r the region of client c whose generations have the remainder r by two.
use Rattle.std.specs.Prelude.{ℕ, zero, suc, ◌+◌, ◌/◌, ◌%◌, ◌==◌, Option, Some, None, if◌then◌else◌}
use Rattle.event_steps.specs.update_log.View.{RegionView}
use Rattle.event_steps.specs.libfs.SealedRegion.{SealedRegionView}
use Rattle.event_steps.specs.View.{SeatView, SystemView, seat_of}

-- the region that a client does not write: it is here, or handed over
abbrev pub region_beside : {M : Type 0} → RegionView M → Option (RegionView M) → Option (SealedRegionView M) → RegionView M
region_beside current (Some r) away = r
region_beside current None (Some a) = a.region
region_beside current None None = current

-- a client's region for generations with this remainder
abbrev pub region_of : {M : Type 0} → SeatView M → ℕ → RegionView M
region_of s r = if s.client.log.generation % 2 == r then s.client.log.current else region_beside s.client.log.current s.client.log.other s.away

-- its medium; the shared one where there is no such seat
abbrev pub region_medium : {M : Type 0} → M → Option (SeatView M) → ℕ → M
region_medium shared None r = shared
region_medium shared (Some s) r = (region_of s r).media

-- the medium of a part; a number past the last part is that of none
abbrev pub medium_of : {M : Type 0} → SystemView M → ℕ → M
medium_of w zero = w.kernel.area.media
medium_of w (suc k) = region_medium w.kernel.area.media (seat_of w (k / 2 + 1)) (k % 2)
