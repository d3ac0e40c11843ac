use Rattle.call_effects.proofs.Steps.{call_done, call_sound, call_refused}
use Rattle.call_effects.proofs.laws.call_is_a_step.Goals as goal

pub returns-clause-done : goal.returns-clause-done
returns-clause-done c = call_done

pub returns-clause-sound : goal.returns-clause-sound
returns-clause-sound c = call_sound

pub returns-clause-refused : goal.returns-clause-refused
returns-clause-refused c = call_refused
