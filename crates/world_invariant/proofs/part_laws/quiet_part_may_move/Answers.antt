use Rattle.world_invariant.proofs.Moved.{quiet}
use Rattle.world_invariant.proofs.part_laws.quiet_part_may_move.Goals as goal

pub returns : goal.returns
returns c = quiet
