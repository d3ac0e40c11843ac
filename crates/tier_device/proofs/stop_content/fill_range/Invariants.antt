use Rattle.std.proofs.Common.{◌≡◌, ◌++◌, ◌+◌, take, drop}
use Rattle.tier_device.specs.Fill.{left_bytes}
use Rattle.tier_device.proofs.stop_content.fill_range.Given as goal

-- the places before i hold what they must, and the others what they held
abbrev pub invariant-bytes : goal.invariant-bytes
invariant-bytes l = take l.i l.place ++ left_bytes l.fill l.tier (l.at + l.i) (drop l.i l.place) (drop l.i l.new) ≡ left_bytes l.fill l.tier l.at l.fn.place l.new
