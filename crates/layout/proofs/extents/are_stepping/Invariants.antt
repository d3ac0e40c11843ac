use Rattle.std.proofs.Common.{◌≡◌, drop}
use Rattle.layout.specs.Extents.{are_stepping}
use Rattle.layout.proofs.extents.are_stepping.Given as goal

abbrev pub invariant-loop-index : goal.invariant-loop-index
invariant-loop-index l = are_stepping l.end (drop l.index l.extents) ≡ are_stepping 0 l.extents
