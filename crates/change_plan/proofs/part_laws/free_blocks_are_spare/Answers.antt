use Rattle.change_plan.proofs.SpareNodes.{ready}
use Rattle.change_plan.proofs.part_laws.free_blocks_are_spare.Goals as goal

pub returns : goal.returns
returns c g s d i start x left taken images allowed spelled bounded has others starts sound changed enough = ready g s d i start x left taken images allowed spelled has others starts sound changed (c.changed_directory_can_be_written.ensures g d start x bounded sound changed) enough
