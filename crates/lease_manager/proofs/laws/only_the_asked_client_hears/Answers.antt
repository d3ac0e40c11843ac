use Rattle.lease_manager.proofs.Waiting.{heard_right}
use Rattle.lease_manager.proofs.laws.only_the_asked_client_hears.Goals as goal

pub returns : goal.returns
returns c newer older client word found legal = (heard_right newer older client word found legal).0
