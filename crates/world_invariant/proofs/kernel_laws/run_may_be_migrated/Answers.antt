use Rattle.world_invariant.proofs.Migrations.{charged_same, migrated_holds, migrated_whole, migrated_tree, migrated_stored}
use Rattle.world_invariant.proofs.kernel_laws.run_may_be_migrated.Goals as goal

pub returns-clause-holds : goal.returns-clause-holds
returns-clause-holds c = λ w after h is. migrated_holds w after is h

pub returns-clause-whole : goal.returns-clause-whole
returns-clause-whole c = migrated_whole

pub returns-clause-tree : goal.returns-clause-tree
returns-clause-tree c = migrated_tree

pub returns-clause-charged : goal.returns-clause-charged
returns-clause-charged c = charged_same

pub returns-clause-stored : goal.returns-clause-stored
returns-clause-stored c = λ w after logs is. migrated_stored w after is logs
