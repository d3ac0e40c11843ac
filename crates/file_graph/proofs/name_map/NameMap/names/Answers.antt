use Rattle.std.proofs.Common.{◌≡◌, ap, sym, subst, ◌∙◌, ◌<◌, ℕ, List, map, length}
use Rattle.std.proofs.lemmas.Result.{IfOk-weaker, IfErr-weaker}
use Rattle.std.proofs.lemmas.List.{length-map}
use Rattle.std.specs.FinMap as fin
use Rattle.posix_calls.specs.Content.{Entries}
use Rattle.file_graph.specs.declared.name_map.NamedEntry.{NamedEntry}
use Rattle.file_graph.specs.NameOrder.{pairs}
use Rattle.file_graph.proofs.name_map.NameMap.names.Goals as goal

-- the first parts of equal lists of pairs
firsts : {V : Type 0} (xs ys : List (List ℕ × V)) → xs ≡ ys → map (λ e. e.0) xs ≡ map (λ e. e.0) ys
firsts {V = V} xs ys same = ap (λ (es : List (List ℕ × V)). map (λ e. e.0) es) same

pub returns-clause-names : goal.returns-clause-names
returns-clause-names g c = IfOk-weaker c.names_of_entries.result _ _ (λ x e. e ∙ firsts _ _ c.as_slice.ensures) c.names_of_entries.ensures.names

-- where the list has an entry, the map has one
some_entry : {V : Type 0} (es : List (NamedEntry V)) (m : Entries V) → pairs es ≡ fin.entries m → 0 < length es → 0 < fin.len m
some_entry {V = V} es m is some = subst (λ n. 0 < n) (sym (length-map es (λ (e : NamedEntry V). (e.name, e.value))) ∙ ap length is ∙ sym (fin.len-entries m)) some

pub returns-clause-memory : goal.returns-clause-memory
returns-clause-memory g c = IfErr-weaker c.names_of_entries.result _ _ (λ x some. some_entry _ _ c.as_slice.ensures some) c.names_of_entries.ensures.memory
