use Rattle.std.proofs.Common.{◌≡◌, drop}
use Rattle.record_validation.specs.KnownNodes.{first_unknown}
use Rattle.record_validation.proofs.known_nodes.first_unknown.Given as goal

abbrev pub invariant-loop-effect : goal.invariant-loop-effect
invariant-loop-effect l = first_unknown l.known (drop l.effect-index l.effects) ≡ first_unknown l.known l.effects
