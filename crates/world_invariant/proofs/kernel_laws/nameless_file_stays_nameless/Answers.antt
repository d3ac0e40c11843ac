use Rattle.world_invariant.proofs.Reclaims.{nameless_whole}
use Rattle.world_invariant.proofs.kernel_laws.nameless_file_stays_nameless.Goals as goal

pub returns : goal.returns
returns c = nameless_whole
