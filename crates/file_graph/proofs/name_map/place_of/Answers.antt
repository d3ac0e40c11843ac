use Rattle.std.proofs.Common.{◌≡◌, ℕ, List, Result, Ok, Err, length, rules, arith, sym}
use Rattle.std.proofs.lemmas.Fn.{always_returns_same}
use Rattle.std.proofs.lemmas.List.Sorted.{searchable_from_sorted}
use Rattle.std.specs.List.Sorted.{IsBinarySearchResult, IsSearchInRange}
use Rattle.std.specs.Cmp.Lexicographic.{nat_list_cmp_total}
use Rattle.file_graph.specs.declared.name_map.NamedEntry.{NamedEntry}
use Rattle.file_graph.specs.NameOrder.{position_in, IsInOrder}
use Rattle.file_graph.proofs.Ordered.{names_cmp, free_place, found_place, sorted_by_name}
use Rattle.file_graph.proofs.name_map.place_of.Goals as goal

-- what a search among entries in order finds is the place
searched : {V : Type 0} (es : List (NamedEntry V)) (q : List ℕ) (r : Result ℕ ℕ) → IsInOrder es → IsSearchInRange r (length es) → IsBinarySearchResult (λ (e : NamedEntry V). names_cmp e.name q) es r → r ≡ position_in q es
searched es q (Ok i) order within found = sym (found_place q es i order within found)
searched {V = V} es q (Err i) order within found =
    let split = found (searchable_from_sorted nat_list_cmp_total (λ (e : NamedEntry V). e.name) es q (sorted_by_name es order)) in
    sym (free_place q es i within (λ k d lt. split.0 k d (omega arith) lt) split.1)

pub returns-clause-place : goal.returns-clause-place
returns-clause-place g c =
    searched c.args.entries.now c.args.name.now c.binary_search_by.result c.requires c.binary_search_by.ensures.bound
    (c.binary_search_by.ensures.position (λ e. names_cmp e.name c.args.name.now) (always_returns_same _ _ _ (λ a r f' called. (search rules, search rules))))
