use Rattle.std.proofs.Common.{ap, sym, ◌∙◌}
use Rattle.std.specs.FinMap as fin
use Rattle.posix_calls.specs.Content.{Entries}
use Rattle.file_graph.proofs.Ordered.{entries_are}
use Rattle.file_graph.proofs.name_map.NameMap.into_vec.Goals as goal

pub returns : goal.returns
returns g c = sym (entries_are c.self.inside.entries.items c.self.invariant.0) ∙ ap (λ (n : Entries _). fin.entries n) c.self.view_is
