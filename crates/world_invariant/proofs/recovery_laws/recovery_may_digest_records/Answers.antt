use Rattle.world_invariant.proofs.Recoveries.{still_recoverable, recovered_same, still_charged}
use Rattle.world_invariant.proofs.recovery_laws.recovery_may_digest_records.Goals as goal

pub returns-clause-rest : goal.returns-clause-rest
returns-clause-rest c = still_recoverable

pub returns-clause-same : goal.returns-clause-same
returns-clause-same c = recovered_same

pub returns-clause-within : goal.returns-clause-within
returns-clause-within c = λ capacity g logs d first rest r is_d split. (still_recoverable capacity g logs d first rest r is_d split).limits

pub returns-clause-charged : goal.returns-clause-charged
returns-clause-charged c = still_charged
