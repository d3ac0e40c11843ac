use Rattle.std.proofs.Common.{◌≡◌, drop}
use Rattle.layout.specs.Extents.{are_sorted}
use Rattle.layout.proofs.extents.are_sorted.Given as goal

abbrev pub invariant-loop-index : goal.invariant-loop-index
invariant-loop-index l = are_sorted l.end (drop l.index l.extents) ≡ are_sorted 0 l.extents
