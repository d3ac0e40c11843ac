use Rattle.client_log.proofs.Turning.{may_seal, seals}
use Rattle.client_log.proofs.turn_laws.sealed_log_is_a_step.Goals as goal

pub returns-clause-may : goal.returns-clause-may
returns-clause-may c w d t client h can = may_seal w d t h client can

pub returns-clause-goes_on : goal.returns-clause-goes_on
returns-clause-goes_on c w d t h can = seals w d t h can
