use Rattle.client_log.proofs.Turning.{appends}
use Rattle.client_log.proofs.turn_laws.appended_record_is_a_step.Goals as goal

pub returns : goal.returns
returns c w d t b h = appends w d t h b
