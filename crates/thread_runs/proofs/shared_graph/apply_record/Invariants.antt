use Rattle.std.proofs.Common.{◌≡◌, drop}
use Rattle.plain_tree.specs.file_graph.Graph.{graph_of, after_effects}
use Rattle.thread_runs.proofs.shared_graph.apply_record.Given as goal

-- the effects that are still to come lead where all of them do
abbrev pub invariant-loop-effect : goal.invariant-loop-effect
invariant-loop-effect l = after_effects (graph_of l.graph) (drop l.effect-index l.effect-items) ≡ after_effects (graph_of l.initial.graph) l.logged.effects
