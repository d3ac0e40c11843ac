use Rattle.std.proofs.Common.{◌≡◌, ◌++◌, drop}
use Rattle.tier_device.specs.Row.{row_bytes}
use Rattle.tier_device.proofs.row.Row.to_vec.Given as goal

-- the bytes so far and those of the pieces that are left are all
abbrev pub invariant-loop-piece : goal.invariant-loop-piece
invariant-loop-piece l = l.all.items ++ row_bytes (drop l.piece-index l.piece-items) ≡ row_bytes l.piece-items
