use Rattle.kernel_fs.proofs.BookRuns.{run_accepted}
use Rattle.kernel_fs.proofs.laws.digests_are_of_the_region_accepted_last.Goals as goal

pub returns : goal.returns
returns c = run_accepted
