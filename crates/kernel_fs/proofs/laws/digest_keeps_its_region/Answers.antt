use Rattle.kernel_fs.proofs.SealedRecords.{region_after}
use Rattle.kernel_fs.proofs.laws.digest_keeps_its_region.Goals as goal

pub returns : goal.returns
returns c = λ x m s n region few. region_after x m s region n few
