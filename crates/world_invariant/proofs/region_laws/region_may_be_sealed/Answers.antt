use Rattle.world_invariant.proofs.Regions.{sealed_holds, sealed_tree}
use Rattle.world_invariant.proofs.region_laws.region_may_be_sealed.Goals as goal

pub returns-clause-holds : goal.returns-clause-holds
returns-clause-holds c = sealed_holds

pub returns-clause-tree : goal.returns-clause-tree
returns-clause-tree c = sealed_tree
