use Rattle.std.proofs.Common.{ap, ◌∙◌}
use Rattle.system_laws.specs.file_graph.Graph.{after_effects, graph_of}
use Rattle.system_laws.specs.world_invariant.Logs.{after_records}
use Rattle.interleavings.proofs.NodePuts.{records_more}
use Rattle.interleavings.proofs.node_copies.put_records.Goals as goal

pub loop-record-preserved : goal.loop-record-preserved
loop-record-preserved c = records_more c.args.records.now c.loop-record.record-index c.record-item.result c.loop-record-test.true c.record-item.is (graph_of c.loop-record.graph) (graph_of c.put_effects.new.graph) (after_records (graph_of c.args.graph.now) c.args.records.now) (c.in_ok-put_effects.ensures ∙ ap (after_effects (graph_of c.loop-record.graph)) c.as_slice.ensures) c.loop-record.invariant
