-- How many runs some places are.
use Rattle.std.proofs.Common.{◌≡◌, ◌≤◌, ◌<◌, ℕ, zero, suc, ◌+◌, List, [], ◌∷◌, ◌++◌, length, Option, Some, None, ap, arith, length-append}
use Rattle.std.specs.List.{AllByRecursion, range_with_len}
use Rattle.std.proofs.lemmas.List.FromFn.{length-range_with_len}
use Rattle.area_commit.specs.layout.declared.extents.Extent.{Extent}
use Rattle.area_commit.specs.extent_tree.Places.{place_of}
use Rattle.block_alloc.specs.declared.runs.Run.{Run}
use Rattle.block_alloc.specs.Runs.{run_blocks, blocks_of}
use Rattle.area_commit.specs.extent_tree.Map.{places_of, place_list, HasBlock}

few_listed : (o : Option ℕ) → length (place_list o) ≤ 1
few_listed None = omega arith
few_listed (Some p) = omega arith

few_places : (es : List Extent) (first count : ℕ) → length (places_of es first count) ≤ count
few_places es first zero = omega arith
few_places es first (suc n) = omega (arith, length-append (place_list (place_of es first)) (places_of es (first + 1) n), few_listed (place_of es first), few_places es (first + 1) n)

few_runs : (runs : List Run) → AllByRecursion HasBlock runs → length runs ≤ length (blocks_of runs)
few_runs [] some = omega arith
few_runs (r ∷ rs) some = omega (arith, length-append (run_blocks r) (blocks_of rs), length-range_with_len r.first r.count, some.0, few_runs rs some.1)

pub few_runs_in : (es : List Extent) (first count : ℕ) (runs : List Run) → blocks_of runs ≡ places_of es first count → AllByRecursion HasBlock runs → length runs ≤ count
few_runs_in es first count runs is some = omega (arith, few_runs runs some, ap length is, few_places es first count)
