use Rattle.std.proofs.Common.{◌≡◌, ◌-◌, drop}
use Rattle.system_laws.specs.file_graph.Graph.{after_effects, graph_of}
use Rattle.system_laws.specs.file_graph.Plain.{pairs}
use Rattle.interleavings.specs.Snapshots.{entries_put}
use Rattle.interleavings.proofs.node_copies.put_entries.Given as goal

abbrev pub invariant-loop-done : goal.invariant-loop-done
invariant-loop-done l = graph_of l.graph ≡ after_effects (graph_of l.fn.graph) (entries_put l.directory (pairs (drop (l.count - l.done) l.entries)))
