use Rattle.world_invariant.proofs.UnlinkWalks.{opened_step, unlinked_step, kept_holds, kept_nameless, kept_unreclaimed, closed_step, can_reclaim, emptied_holds, emptied_tree}
use Rattle.world_invariant.proofs.walk_laws.small_world_unlinks_an_open_file.Goals as goal

pub returns-clause-opened : goal.returns-clause-opened
returns-clause-opened c = opened_step

pub returns-clause-unlinked : goal.returns-clause-unlinked
returns-clause-unlinked c = unlinked_step

pub returns-clause-kept : goal.returns-clause-kept
returns-clause-kept c = kept_holds

pub returns-clause-pinned : goal.returns-clause-pinned
returns-clause-pinned c = kept_unreclaimed

pub returns-clause-closed : goal.returns-clause-closed
returns-clause-closed c = closed_step

pub returns-clause-can : goal.returns-clause-can
returns-clause-can c = can_reclaim

pub returns-clause-reclaimed : goal.returns-clause-reclaimed
returns-clause-reclaimed c = emptied_holds

pub returns-clause-unseen : goal.returns-clause-unseen
returns-clause-unseen c = emptied_tree

pub returns-clause-nameless : goal.returns-clause-nameless
returns-clause-nameless c = kept_nameless
