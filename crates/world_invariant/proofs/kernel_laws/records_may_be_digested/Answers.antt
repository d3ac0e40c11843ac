use Rattle.world_invariant.proofs.Digests.{digested_holds, digest_keeps, digested_tree}
use Rattle.world_invariant.proofs.kernel_laws.records_may_be_digested.Goals as goal

pub returns-clause-holds : goal.returns-clause-holds
returns-clause-holds c = digested_holds

pub returns-clause-whole : goal.returns-clause-whole
returns-clause-whole c = digest_keeps

pub returns-clause-tree : goal.returns-clause-tree
returns-clause-tree c = digested_tree
