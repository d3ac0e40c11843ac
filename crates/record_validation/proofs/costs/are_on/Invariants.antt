use Rattle.std.proofs.Common.{◌≡◌, drop}
use Rattle.call_effects.specs.file_graph.Graph.{touches, is_among}
use Rattle.record_validation.proofs.costs.are_on.Given as goal

abbrev pub invariant-loop-effect : goal.invariant-loop-effect
invariant-loop-effect l = is_among l.inode (touches (drop l.effect-index l.effects)) ≡ is_among l.inode (touches l.effects)
