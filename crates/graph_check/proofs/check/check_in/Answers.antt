use Rattle.std.proofs.Common.{inr}
use Rattle.record_validation.specs.call_effects.ClosedGraph.{nobody}
use Rattle.graph_check.proofs.Unsound.{unsound}
use Rattle.graph_check.proofs.check.check_in.Goals as goal

pub returns-in-Err-test_graph-clause-defect : goal.returns-in-Err-test_graph-clause-defect
returns-in-Err-test_graph-clause-defect g c = c.in-Err-test_graph.ensures.finding (g.N.Nodes.graph c.args.nodes.now) c.in-Ok.ensures.read

pub returns-in-Err-test_graph-clause-unsound : goal.returns-in-Err-test_graph-clause-unsound
returns-in-Err-test_graph-clause-unsound g c = unsound (g.N.Nodes.graph c.args.nodes.now) nobody c.in-Err-test_graph.finding.inode c.in-Err-test_graph.finding.defect (c.in-Err-test_graph.ensures.finding (g.N.Nodes.graph c.args.nodes.now) c.in-Ok.ensures.read)

pub returns-in-Ok-list_nameless-clause-sound : goal.returns-in-Ok-list_nameless-clause-sound
returns-in-Ok-list_nameless-clause-sound g c = c.in-Ok-test_graph.ensures.sound (g.N.Nodes.graph c.args.nodes.now) c.in-Ok.ensures.read

pub returns-in-Err-list_nameless-clause-memory : goal.returns-in-Err-list_nameless-clause-memory
returns-in-Err-list_nameless-clause-memory g c = inr (c.in-Ok-test_graph.ensures.sound (g.N.Nodes.graph c.args.nodes.now) c.in-Ok.ensures.read)
