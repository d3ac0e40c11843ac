use Rattle.std.proofs.Common.{◌≡◌, ap, sym, ◌∙◌, List}
use Rattle.std.specs.FinMap as fin
use Rattle.posix_calls.specs.Content.{Entries}
use Rattle.file_graph.specs.declared.name_map.NamedEntry.{NamedEntry}
use Rattle.file_graph.specs.NameOrder.{pairs, IsInOrder}
use Rattle.file_graph.proofs.Ordered.{entries_are, as_map}
use Rattle.file_graph.proofs.name_map.NameMap.as_slice.Goals as goal

-- the entries of the map are the list of which it was made
listed : {V : Type 0} (read held : List (NamedEntry V)) (m : Entries V) → read ≡ held → IsInOrder held → as_map held ≡ m → pairs read ≡ fin.entries m
listed {V = V} read held m same order is = ap pairs same ∙ sym (entries_are held order) ∙ ap (λ (n : Entries V). fin.entries n) is

pub returns : goal.returns
returns g c = listed c.deref.result.now c.self.inside.entries.items c.args.self.now c.deref.ensures.value c.self.invariant.0 c.self.view_is
