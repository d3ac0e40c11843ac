use Rattle.std.proofs.Common.{◌≡◌, take}
use Rattle.std.specs.List.{count_by}
use Rattle.graph_change.specs.KeptBytes.{is_set}
use Rattle.graph_change.proofs.own_block.count_set.Given as goal

abbrev pub invariant-marks : goal.invariant-marks
invariant-marks l = l.count ≡ count_by is_set (take l.place l.marks)
