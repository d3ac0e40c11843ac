use Rattle.client_log.proofs.Turning.{begins}
use Rattle.client_log.proofs.turn_laws.begun_record_is_in_the_turn.Goals as goal

pub returns : goal.returns
returns c w d t b h = begins w d t h b
