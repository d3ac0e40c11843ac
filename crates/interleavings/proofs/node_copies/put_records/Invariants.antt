use Rattle.std.proofs.Common.{◌≡◌, drop}
use Rattle.system_laws.specs.file_graph.Graph.{graph_of}
use Rattle.system_laws.specs.world_invariant.Logs.{after_records}
use Rattle.interleavings.proofs.node_copies.put_records.Given as goal

abbrev pub invariant-loop-record : goal.invariant-loop-record
invariant-loop-record l = after_records (graph_of l.graph) (drop l.record-index l.records) ≡ after_records (graph_of l.fn.graph) l.records
