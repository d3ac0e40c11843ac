use Rattle.std.proofs.Common.{ap, sym, ◌∙◌, Option}
use Rattle.std.specs.Ordering.{nat_cmp}
use Rattle.std.specs.Cmp.Lexicographic.{slice_cmp}
use Rattle.std.specs.FinMap as fin
use Rattle.file_graph.specs.Graph.{Node, node_entries}
use Rattle.file_graph.proofs.plain.child_at.Goals as goal

pub returns-in-None : goal.returns-in-None
returns-in-None c =
    sym (fin.get-empty (slice_cmp nat_cmp) c.args.name.now)
    ∙ ap (λ (o : Option Node). fin.get (node_entries o) c.args.name.now) c.in-None.ensures.value
