use Rattle.kernel_fs.proofs.SealedRecords.{covered, never}
use Rattle.kernel_fs.proofs.laws.sealed_records_are_covered.Goals as goal

pub returns-clause-covered : goal.returns-clause-covered
returns-clause-covered c = λ held g writes rs within spelled holds logged. covered held writes rs g within spelled holds logged

pub returns-clause-never : goal.returns-clause-never
returns-clause-never c = λ x m s n k sealed runs region stands bad. never x m s region sealed n k runs stands bad
