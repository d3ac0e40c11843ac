use Rattle.world_history.proofs.MayBeSaid.{parts_meet}
use Rattle.world_history.proofs.together_laws.clients_may_meet.Goals as goal

pub returns : goal.returns
returns r s parts clients together = parts_meet s parts clients together
