use Rattle.std.proofs.Common.{[], Option, ap, ◌∙◌}
use Rattle.std.proofs.lemmas.Result.{on_ok_weaker}
use Rattle.graph_change.specs.file_graph.Graph.{child_at, entered_if, graph_of}
use Rattle.graph_change.specs.Net.{Child}
use Rattle.graph_change.specs.Change.{with_effects}
use Rattle.graph_change.specs.View.{changes_of}
use Rattle.coalescer.proofs.run_change.enter_child.Goals as goal

pub returns-in-Some : goal.returns-in-Some
returns-in-Some c =
    on_ok_weaker c.enter.result
    (λ e.
    e
    ∙ ap (λ (o : Option Child). with_effects (changes_of c.args.change.now) (entered_if (c.args.directory, c.args.name.now) o []))
    (c.in-Some.ensures ∙ ap (child_at (graph_of c.args.graph.now) c.args.directory) c.as_slice.ensures.bytes))
    c.enter.ensures

pub returns-in-None : goal.returns-in-None
returns-in-None c =
    ap (λ (o : Option Child). with_effects (changes_of c.args.change.now) (entered_if (c.args.directory, c.args.name.now) o []))
    (c.in-None.ensures ∙ ap (child_at (graph_of c.args.graph.now) c.args.directory) c.as_slice.ensures.bytes)
