use Rattle.world_invariant.proofs.Moved.{holds_moved}
use Rattle.world_invariant.proofs.part_laws.one_part_may_move.Goals as goal

pub returns : goal.returns
returns c = holds_moved
