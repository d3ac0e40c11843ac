use Rattle.call_effects.proofs.SubjectsMissing.{effects_missing, growth_missing}
use Rattle.call_effects.proofs.effect_subjects.missing_nodes_are_subjects.Goals as goal

pub returns-clause-effects : goal.returns-clause-effects
returns-clause-effects c = λ p new operation what. effects_missing p new what operation

pub returns-clause-growth : goal.returns-clause-growth
returns-clause-growth c = λ p new operation what. growth_missing p new what operation
