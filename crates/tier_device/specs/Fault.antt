-- A medium of which one call fails.
use Rattle.std.specs.Prelude.{ℕ, Option}
use Rattle.tier_device.specs.declared.count.Count.{Count}
use Rattle.tier_device.specs.declared.trip.Turn.{Turn}
use Rattle.tier_device.specs.declared.fault.FaultMedia.{FaultMedia}

-- the medium beneath it
abbrev pub sound_of : {M : Type 0} → FaultMedia M → M
sound_of f = f.inner

-- what counts its writes and fences
abbrev pub fault_count : {M : Type 0} → FaultMedia M → Count
fault_count f = f.count

-- what was said of its last write or fence
abbrev pub fault_turn : {M : Type 0} → FaultMedia M → Turn
fault_turn f = f.count.turn

-- how many writes and fences it counts before the one that fails, if one is to fail by a count of its own
abbrev pub fails_after : {M : Type 0} → FaultMedia M → Option ℕ
fails_after f = f.count.more

-- how many calls of it have failed
abbrev pub failures : {M : Type 0} → FaultMedia M → ℕ
failures f = f.faults
