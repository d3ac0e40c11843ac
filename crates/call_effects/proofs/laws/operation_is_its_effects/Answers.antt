use Rattle.call_effects.proofs.ReachedAfter.{state_is, sound_after}
use Rattle.call_effects.proofs.laws.operation_is_its_effects.Goals as goal

pub returns-clause-state : goal.returns-clause-state
returns-clause-state c = state_is

pub returns-clause-sound : goal.returns-clause-sound
returns-clause-sound c = sound_after
