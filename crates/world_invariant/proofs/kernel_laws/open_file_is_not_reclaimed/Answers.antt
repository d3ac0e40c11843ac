use Rattle.world_invariant.proofs.Besides.{open_stays}
use Rattle.world_invariant.proofs.kernel_laws.open_file_is_not_reclaimed.Goals as goal

pub returns : goal.returns
returns c = open_stays
