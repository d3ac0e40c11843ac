use Rattle.std.proofs.Common.{ℕ, ◌<◌}
use Rattle.area_reader.specs.Map.{IsOnceAt}
use Rattle.area_reader.proofs.places.mapped_twice.Given as goal

abbrev pub invariant-loop-block : goal.invariant-loop-block
invariant-loop-block l = (k : ℕ) → k < l.block → IsOnceAt l.found k
