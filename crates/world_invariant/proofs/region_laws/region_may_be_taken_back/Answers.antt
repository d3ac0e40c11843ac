use Rattle.world_invariant.proofs.Regions.{taken_back_holds, taken_back_tree}
use Rattle.world_invariant.proofs.region_laws.region_may_be_taken_back.Goals as goal

pub returns-clause-holds : goal.returns-clause-holds
returns-clause-holds c = taken_back_holds

pub returns-clause-tree : goal.returns-clause-tree
returns-clause-tree c = taken_back_tree
