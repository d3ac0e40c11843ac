use Rattle.world_invariant.proofs.AloneReading.{reading_alone, reading_forgets, reading_lost}
use Rattle.world_invariant.proofs.broken_laws.call_without_an_effect_loses_its_plan.Goals as goal

pub returns-clause-alone : goal.returns-clause-alone
returns-clause-alone c = reading_alone

pub returns-clause-can : goal.returns-clause-can
returns-clause-can c = reading_forgets

pub returns-clause-lost : goal.returns-clause-lost
returns-clause-lost c = reading_lost
