use Rattle.world_invariant.proofs.AllAlone.{all_alone}
use Rattle.world_invariant.proofs.broken_laws.each_part_breaks_alone.Goals as goal

pub returns : goal.returns
returns c = all_alone
