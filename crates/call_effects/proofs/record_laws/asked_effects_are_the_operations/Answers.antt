use Rattle.call_effects.proofs.KnownEffects.{effects_are}
use Rattle.call_effects.proofs.record_laws.asked_effects_are_the_operations.Goals as goal

pub returns : goal.returns
returns c = effects_are
