use Rattle.world_history.proofs.Local.{gave_by_client, is_local, joined_by_client}
use Rattle.world_history.proofs.local_laws.move_asks_its_client_and_the_kernel.Goals as goal

pub returns-clause-local : goal.returns-clause-local
returns-clause-local r m on = is_local m on

pub returns-clause-gave : goal.returns-clause-gave
returns-clause-gave r s c i is_c idle clean = gave_by_client s c i is_c idle clean

pub returns-clause-joined : goal.returns-clause-joined
returns-clause-joined r s k c mark h may = joined_by_client s k c mark h may
