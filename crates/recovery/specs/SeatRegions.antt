-- The regions of a system's clients as one list.
use Rattle.std.specs.Prelude.{List, [], ◌∷◌}
use Rattle.interleavings.specs.update_log.View.{RegionView}
use Rattle.interleavings.specs.event_steps.View.{SeatView}
use Rattle.interleavings.specs.system_laws.Parts.{region_of}

-- the regions of seats, one seat after the other: that of even generations and then that of odd ones
abbrev pub regions_of_seats : {M : Type 0} → List (SeatView M) → List (RegionView M)
regions_of_seats [] = []
regions_of_seats (s ∷ ss) = region_of s 0 ∷ region_of s 1 ∷ regions_of_seats ss
