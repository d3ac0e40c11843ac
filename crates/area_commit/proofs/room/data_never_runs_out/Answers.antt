use Rattle.area_commit.proofs.DataRoom.{data_used, data_unused, data_spare}
use Rattle.area_commit.proofs.room.data_never_runs_out.Goals as goal

pub returns : goal.returns
returns c = record { used = data_used; unused = data_unused; spare = data_spare }
