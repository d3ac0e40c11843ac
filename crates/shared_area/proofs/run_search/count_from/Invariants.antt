use Rattle.std.proofs.Common.{◌<◌, ◌+◌, ℕ}
use Rattle.std.specs.Prelude.{IsSome}
use Rattle.area_reader.specs.Map.{place_by}
use Rattle.shared_area.proofs.run_search.count_from.Given as goal

abbrev pub invariant-loop-count : goal.invariant-loop-count
invariant-loop-count l = (n : ℕ) → n < l.count → IsSome (place_by l.parts.extents l.tier (l.first + n))
