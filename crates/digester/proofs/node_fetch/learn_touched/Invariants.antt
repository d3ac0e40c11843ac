use Rattle.std.proofs.Common.{◌≡◌, ℕ, List, take}
use Rattle.update_log.specs.file_graph.Graph.{Graph, touches}
use Rattle.shared_area.specs.record_validation.Row.{HasCome}
use Rattle.digester.specs.Questions.{AreAmong, AskedKnown}
use Rattle.digester.proofs.Known.{AreKnown}
use Rattle.digester.proofs.node_fetch.learn_touched.Given as goal

abbrev pub invariant-loop-effect : goal.invariant-loop-effect
invariant-loop-effect g l = record {
  stays : g.N.Nodes.graph l.nodes ≡ g.N.Nodes.graph l.fn.nodes;
  come : (h : Graph) → HasCome l.fn.check (g.N.Nodes.graph l.fn.nodes) h → HasCome l.check (g.N.Nodes.graph l.fn.nodes) h;
  known : AreKnown l.check.known (touches (take l.effect-index l.effects));
  asked : (first : g.row.N.Denot) (among : List ℕ) → AreAmong (touches l.effects) among → AskedKnown g.N.Nodes.asked l.fn.check.known among first l.fn.nodes → AskedKnown g.N.Nodes.asked l.check.known among first l.nodes;
}
