use Rattle.call_effects.proofs.Spelled.{record_spelled, growth_small, unchanged}
use Rattle.call_effects.proofs.record_laws.answered_operations_have_spellings.Goals as goal

pub returns-clause-spelled : goal.returns-clause-spelled
returns-clause-spelled c = record_spelled

pub returns-clause-units : goal.returns-clause-units
returns-clause-units c = growth_small

pub returns-clause-unchanged : goal.returns-clause-unchanged
returns-clause-unchanged c = unchanged
