use Rattle.client_log.proofs.Turning.{wipes_current, wipes_other}
use Rattle.client_log.proofs.turn_laws.wiped_region_is_a_step.Goals as goal

pub returns-clause-other : goal.returns-clause-other
returns-clause-other c w d t h = wipes_other w d t h

pub returns-clause-current : goal.returns-clause-current
returns-clause-current c w d t h = wipes_current w d t h
