use Rattle.call_effects.proofs.KnownSteps.{answer_known, effects_known, growth_known}
use Rattle.call_effects.proofs.known_laws.known_answer_is_of_the_whole.Goals as goal

pub returns-clause-call : goal.returns-clause-call
returns-clause-call c = answer_known

pub returns-clause-effects : goal.returns-clause-effects
returns-clause-effects c = λ k g held. effects_known k g held (held k.client)

pub returns-clause-growth : goal.returns-clause-growth
returns-clause-growth c = λ k g held. growth_known k g held (held k.client)
