use Rattle.std.proofs.Common.{refl}
use Rattle.world_invariant.proofs.FiveWalks.{can_give, made_step, opened_step, unlinked_step, kept_holds, kept_nameless, kept_unreclaimed}
use Rattle.world_invariant.proofs.walk_laws.small_world_of_five_nodes.Goals as goal

pub returns-clause-given : goal.returns-clause-given
returns-clause-given c = can_give

pub returns-clause-made : goal.returns-clause-made
returns-clause-made c = made_step

pub returns-clause-opened : goal.returns-clause-opened
returns-clause-opened c = opened_step

pub returns-clause-unlinked : goal.returns-clause-unlinked
returns-clause-unlinked c = unlinked_step

pub returns-clause-kept : goal.returns-clause-kept
returns-clause-kept c = kept_holds

pub returns-clause-nodes : goal.returns-clause-nodes
returns-clause-nodes c = refl

pub returns-clause-nameless : goal.returns-clause-nameless
returns-clause-nameless c = kept_nameless

pub returns-clause-byte : goal.returns-clause-byte
returns-clause-byte c = refl

pub returns-clause-pinned : goal.returns-clause-pinned
returns-clause-pinned c = kept_unreclaimed
