use Rattle.std.proofs.Common.{refl}
use Rattle.world_invariant.proofs.BurialWalks.{found_step, back_unreclaimed, can_bury, can_reclaim, can_join, new_holds, new_kernel, new_tree}
use Rattle.world_invariant.proofs.walk_laws.small_world_buries_a_client.Goals as goal

pub returns-clause-found : goal.returns-clause-found
returns-clause-found r = found_step

pub returns-clause-pinned : goal.returns-clause-pinned
returns-clause-pinned r = back_unreclaimed

pub returns-clause-buries : goal.returns-clause-buries
returns-clause-buries r = can_bury

pub returns-clause-unpinned : goal.returns-clause-unpinned
returns-clause-unpinned r = can_reclaim

pub returns-clause-joins : goal.returns-clause-joins
returns-clause-joins r = can_join

pub returns-clause-joined : goal.returns-clause-joined
returns-clause-joined r = new_holds

pub returns-clause-fresh : goal.returns-clause-fresh
returns-clause-fresh r = refl

pub returns-clause-same : goal.returns-clause-same
returns-clause-same r = new_tree

pub returns-clause-kernel : goal.returns-clause-kernel
returns-clause-kernel r = new_kernel
