use Rattle.std.proofs.Common.{◌≡◌, ◌<◌, ℕ, None}
use Rattle.area_reader.specs.Map.{place_by}
use Rattle.shared_area.proofs.run_search.first_block.Given as goal

abbrev pub invariant-loop-block : goal.invariant-loop-block
invariant-loop-block l = (k : ℕ) → k < l.block → place_by l.parts.extents l.tier k ≡ None
