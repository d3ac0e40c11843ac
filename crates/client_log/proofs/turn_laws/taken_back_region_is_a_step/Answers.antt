use Rattle.client_log.proofs.Turning.{takes_back}
use Rattle.client_log.proofs.turn_laws.taken_back_region_is_a_step.Goals as goal

pub returns-clause-goes_on : goal.returns-clause-goes_on
returns-clause-goes_on c w d t h = takes_back w d t h
