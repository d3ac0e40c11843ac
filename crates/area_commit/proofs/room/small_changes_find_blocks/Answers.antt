use Rattle.area_commit.proofs.Found.{spare_found, growing_found}
use Rattle.area_commit.proofs.room.small_changes_find_blocks.Goals as goal

pub returns : goal.returns
returns c = record { spare = spare_found; growing = growing_found }
