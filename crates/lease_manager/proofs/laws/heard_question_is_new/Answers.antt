use Rattle.lease_manager.proofs.Waiting.{asked_between}
use Rattle.lease_manager.proofs.laws.heard_question_is_new.Goals as goal

pub returns : goal.returns
returns c = asked_between
