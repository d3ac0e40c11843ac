use Rattle.call_effects.proofs.SubjectLists.{subjects_touched, subjects_rise, subjects_few}
use Rattle.call_effects.proofs.effect_subjects.subjects_are_what_the_effects_touch.Goals as goal

pub returns-clause-touched : goal.returns-clause-touched
returns-clause-touched c = subjects_touched

pub returns-clause-rising : goal.returns-clause-rising
returns-clause-rising c = subjects_rise

pub returns-clause-few : goal.returns-clause-few
returns-clause-few c = subjects_few
