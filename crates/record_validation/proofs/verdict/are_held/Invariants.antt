use Rattle.std.proofs.Common.{◌≡◌, drop}
use Rattle.record_validation.specs.Good.{are_held}
use Rattle.record_validation.proofs.verdict.are_held.Given as goal

abbrev pub invariant-loop-effect : goal.invariant-loop-effect
invariant-loop-effect l = are_held l.held (drop l.effect-index l.effects) ≡ are_held l.held l.effects
