use Rattle.world_invariant.proofs.Regions.{other_wiped_holds, other_wiped_tree, current_wiped_holds, current_wiped_tree}
use Rattle.world_invariant.proofs.region_laws.region_may_be_wiped.Goals as goal

pub returns-clause-other : goal.returns-clause-other
returns-clause-other c = λ w d h can. other_wiped_holds w d h can.client can.back

pub returns-clause-other_tree : goal.returns-clause-other_tree
returns-clause-other_tree c = λ w d h can. other_wiped_tree w d h can.client can.back

pub returns-clause-current : goal.returns-clause-current
returns-clause-current c = λ w d h can. current_wiped_holds w d h can.client can.stale

pub returns-clause-current_tree : goal.returns-clause-current_tree
returns-clause-current_tree c = λ w d h can. current_wiped_tree w d h can.client can.stale
