use Rattle.world_invariant.proofs.Fetches.{view_is}
use Rattle.world_invariant.proofs.lease_laws.view_of_a_held_inode_is_the_wholes.Goals as goal

pub returns : goal.returns
returns c = λ w d i h is_c leased. view_is w d i h is_c leased
