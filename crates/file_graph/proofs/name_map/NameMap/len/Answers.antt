use Rattle.std.proofs.Common.{◌∙◌}
use Rattle.file_graph.proofs.Ordered.{counted}
use Rattle.file_graph.proofs.name_map.NameMap.len.Goals as goal

pub returns : goal.returns
returns g c = c.len.ensures ∙ c.self.inside.entries.ok.0 ∙ counted c.self.inside.entries.items c.args.self.now c.self.invariant.0 c.self.view_is
