use Rattle.std.proofs.Common.{◌∙◌, ap, List, ℕ}
use Rattle.std.specs.Ordering.{nat_cmp}
use Rattle.std.specs.Map.{lookup}
use Rattle.std.specs.BTreeMap.{is_at}
use Rattle.file_graph.specs.Graph.{Node}
use Rattle.file_graph.proofs.Maps.{graph_is}
use Rattle.file_graph.proofs.plain.PlainGraph.empty.Goals as goal

pub returns : goal.returns
returns c = graph_is c.new.result ∙ (λ t i. ap (λ (es : List (ℕ × Node)). lookup (is_at (nat_cmp i)) es) c.new.ensures.empty t)
