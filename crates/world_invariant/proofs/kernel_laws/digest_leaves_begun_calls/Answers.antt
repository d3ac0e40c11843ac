use Rattle.world_invariant.proofs.Besides.{begun_still, replied_beside}
use Rattle.world_invariant.proofs.kernel_laws.digest_leaves_begun_calls.Goals as goal

pub returns-clause-begun : goal.returns-clause-begun
returns-clause-begun c = begun_still

pub returns-clause-answered : goal.returns-clause-answered
returns-clause-answered c = replied_beside
