use Rattle.std.proofs.Common.{◌≡◌, ap, ◌∙◌, List, ℕ}
use Rattle.std.specs.FinMap as fin
use Rattle.posix_calls.specs.Content.{Entries}
use Rattle.file_graph.specs.declared.name_map.NamedEntry.{NamedEntry}
use Rattle.file_graph.specs.NameOrder.{pairs, IsInOrder}
use Rattle.file_graph.proofs.Ordered.{get_is_find, names_cmp, as_map}
use Rattle.file_graph.proofs.name_map.NameMap.get.Goals as goal

-- what is found among the entries is what the map has
found : {V : Type 0} (read held : List (NamedEntry V)) (q : List ℕ) (m : Entries V) → read ≡ held → IsInOrder held → as_map held ≡ m → fin.find names_cmp q (pairs read) ≡ fin.get m q
found {V = V} read held q m same order is = ap (λ (es : List (NamedEntry V)). fin.find names_cmp q (pairs es)) same ∙ get_is_find held q order ∙ ap (λ (n : Entries V). fin.get n q) is

pub returns : goal.returns
returns g c = c.get_entry.ensures ∙ found c.deref.result.now c.self.inside.entries.items c.args.name.now c.args.self.now c.deref.ensures.value c.self.invariant.0 c.self.view_is
