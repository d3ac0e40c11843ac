use Rattle.std.proofs.Common.{◌≡◌, drop}
use Rattle.plain_tree.specs.file_graph.Graph.{graph_of}
use Rattle.thread_runs.specs.FirstPath.{after_replay}
use Rattle.thread_runs.proofs.shared_graph.replay.Given as goal

-- the records that are still to come lead where all of them do
abbrev pub invariant-loop-entry : goal.invariant-loop-entry
invariant-loop-entry l = after_replay (graph_of l.graph) (drop l.entry-index l.rest) ≡ after_replay (graph_of l.initial.graph) (drop l.done l.records)
