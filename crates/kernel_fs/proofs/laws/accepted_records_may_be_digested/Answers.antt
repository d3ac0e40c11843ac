use Rattle.kernel_fs.proofs.SealedRecords.{next, same_undone}
use Rattle.kernel_fs.proofs.laws.accepted_records_may_be_digested.Goals as goal

pub returns-clause-undone : goal.returns-clause-undone
returns-clause-undone c = λ x m s region. same_undone x m s region

pub returns-clause-next : goal.returns-clause-next
returns-clause-next c = λ x book m s n sealed is accepted region some few. next x m s region sealed book n is accepted some few
