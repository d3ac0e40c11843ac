use Rattle.std.proofs.Common.{ℕ, List, ◌∙◌, ap}
use Rattle.plain_tree.specs.file_graph.Graph.{Graph, fresh, after_effects}
use Rattle.thread_runs.specs.FirstPath.{file_effects}
use Rattle.thread_runs.proofs.shared_graph.first_graph.Goals as goal

pub returns : goal.returns
returns c =
    c.in_ok-make_file.ensures
    ∙ ap (λ (g : Graph). after_effects g (file_effects c.in_ok-name.name)) c.in_ok-graph.ensures
    ∙ ap (λ (name : List ℕ). after_effects fresh (file_effects name)) c.in_ok-name.ensures
