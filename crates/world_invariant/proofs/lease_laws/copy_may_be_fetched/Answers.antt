use Rattle.world_invariant.proofs.Fetches.{fetched_holds, fetched_tree, blocks_fetched_hold, blocks_fetched_tree}
use Rattle.world_invariant.proofs.lease_laws.copy_may_be_fetched.Goals as goal

pub returns-clause-holds : goal.returns-clause-holds
returns-clause-holds c = λ w c i h can. fetched_holds w c i h can

pub returns-clause-tree : goal.returns-clause-tree
returns-clause-tree c = λ w c i h can. fetched_tree w c i h can

pub returns-clause-blocks : goal.returns-clause-blocks
returns-clause-blocks c = λ w c i first count names bytes h can. blocks_fetched_hold w c i first count names bytes h can

pub returns-clause-blocks_tree : goal.returns-clause-blocks_tree
returns-clause-blocks_tree c = λ w c i first count names bytes h can. blocks_fetched_tree w c i first count names bytes h can
