use Rattle.std.proofs.Common.{ℕ, ◌++◌, take, drop, max, min}
use Rattle.extent_tree.specs.Normal.{IsRising, Joins}
use Rattle.extent_tree.specs.Parts.{part}
use Rattle.extent_tree.proofs.extent_join.push_part.Given as goal

-- what is still to come rises from some block on, and what is put together ends by it
abbrev pub invariant-more : goal.invariant-more
invariant-more l = (low : ℕ) × IsRising low 4294967295 (drop l.index l.more) × Joins (max l.from (min low l.to)) (l.fn.extents.items ++ part l.from l.to (take l.index l.more)) l.extents.items
