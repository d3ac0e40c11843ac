use Rattle.std.proofs.Common.{◌≡◌, take}
use Rattle.update_log.specs.file_graph.Graph.{after_effects, touches}
use Rattle.coalescer.specs.Records.{effects_in}
use Rattle.shared_area.specs.record_validation.Row.{HasCome}
use Rattle.digester.specs.Questions.{AskedKnown}
use Rattle.digester.specs.Plan.{AreGood}
use Rattle.digester.proofs.record_test.test_records.Given as goal

abbrev pub invariant-loop-place : goal.invariant-loop-place
invariant-loop-place g l = record {
  stays : g.N.Nodes.graph l.nodes ≡ g.N.Nodes.graph l.fn.nodes;
  good : AreGood l.held l.capacity (g.N.Nodes.graph l.fn.nodes) (take l.place l.records);
  come : HasCome l.check (g.N.Nodes.graph l.fn.nodes) (after_effects (g.N.Nodes.graph l.fn.nodes) (effects_in (take l.place l.records)));
  asked : AskedKnown g.N.Nodes.asked l.check.known (touches (effects_in l.records)) l.fn.nodes l.nodes;
}
