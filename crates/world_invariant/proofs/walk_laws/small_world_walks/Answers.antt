use Rattle.world_invariant.proofs.Walks.{making_holds, making_tree, made_step, stopped_without, stopped_with, passed_holds, passed_tree}
use Rattle.world_invariant.proofs.walk_laws.small_world_walks.Goals as goal

pub returns-clause-begun : goal.returns-clause-begun
returns-clause-begun c = making_holds

pub returns-clause-unchanged : goal.returns-clause-unchanged
returns-clause-unchanged c = making_tree

pub returns-clause-answered : goal.returns-clause-answered
returns-clause-answered c = made_step

pub returns-clause-stopped_without : goal.returns-clause-stopped_without
returns-clause-stopped_without c = stopped_without

pub returns-clause-stopped_with : goal.returns-clause-stopped_with
returns-clause-stopped_with c = stopped_with

pub returns-clause-passed : goal.returns-clause-passed
returns-clause-passed c = passed_holds

pub returns-clause-same : goal.returns-clause-same
returns-clause-same c = passed_tree
