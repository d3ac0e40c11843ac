use Rattle.call_effects.proofs.KnownSteps.{planned_step, planned_sound, refused_step}
use Rattle.call_effects.proofs.KnownUnits.{planned_growth, planned_units}
use Rattle.call_effects.proofs.known_laws.known_call_is_a_step.Goals as goal

pub returns-clause-done : goal.returns-clause-done
returns-clause-done c = λ k g held call new operation es sound agrees plan. planned_step k g held sound agrees call new operation es plan

pub returns-clause-sound : goal.returns-clause-sound
returns-clause-sound c = λ k g held call new operation es sound agrees plan. planned_sound k g held sound agrees call new operation es plan

pub returns-clause-refused : goal.returns-clause-refused
returns-clause-refused c = λ k g held call errno sound agrees known. refused_step k g held sound agrees call errno known

pub returns-clause-growth : goal.returns-clause-growth
returns-clause-growth c = planned_growth

pub returns-clause-units : goal.returns-clause-units
returns-clause-units c = planned_units
