use Rattle.world_invariant.proofs.Facts.{apart_all, apart_logs}
use Rattle.world_invariant.proofs.Orders.{orders_same}
use Rattle.world_invariant.proofs.order_laws.clients_records_commute.Goals as goal

pub returns-clause-apart : goal.returns-clause-apart
returns-clause-apart c = apart_logs

pub returns-clause-begun_apart : goal.returns-clause-begun_apart
returns-clause-begun_apart c = apart_all

pub returns-clause-same : goal.returns-clause-same
returns-clause-same c = orders_same
