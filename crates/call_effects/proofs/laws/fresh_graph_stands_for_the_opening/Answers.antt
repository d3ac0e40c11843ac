use Rattle.call_effects.proofs.Fresh.{fresh_sound, fresh_state}
use Rattle.call_effects.proofs.laws.fresh_graph_stands_for_the_opening.Goals as goal

pub returns-clause-sound : goal.returns-clause-sound
returns-clause-sound c = fresh_sound

pub returns-clause-state : goal.returns-clause-state
returns-clause-state c = fresh_state
