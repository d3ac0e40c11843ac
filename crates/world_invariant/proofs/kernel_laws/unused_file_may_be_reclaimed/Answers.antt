use Rattle.world_invariant.proofs.Reclaims.{reclaimed_holds, reclaimed_whole, reclaimed_tree}
use Rattle.world_invariant.proofs.kernel_laws.unused_file_may_be_reclaimed.Goals as goal

pub returns-clause-holds : goal.returns-clause-holds
returns-clause-holds c = reclaimed_holds

pub returns-clause-whole : goal.returns-clause-whole
returns-clause-whole c = reclaimed_whole

pub returns-clause-tree : goal.returns-clause-tree
returns-clause-tree c = reclaimed_tree
