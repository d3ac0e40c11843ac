use Rattle.call_effects.proofs.Whole.{whole_is_stored}
use Rattle.call_effects.proofs.answer_laws.answers_are_of_the_graph.Goals as goal

pub returns : goal.returns
returns c = whole_is_stored
