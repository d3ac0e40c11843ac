use Rattle.std.proofs.Common.{◌≡◌, ◌-◌, ◌≤◌}
use Rattle.system_laws.specs.file_graph.Graph.{graph_of}
use Rattle.system_laws.specs.world_invariant.Logs.{after_clients}
use Rattle.interleavings.specs.Snapshots.{kept_log}
use Rattle.interleavings.proofs.snapshot.put_logs.Given as goal

abbrev pub invariant-loop-client : goal.invariant-loop-client
invariant-loop-client g l = record { low : 1 ≤ l.client; done : graph_of l.graph ≡ after_clients (kept_log g.M.Media l.system) (graph_of l.fn.graph) (l.client - 1) }
