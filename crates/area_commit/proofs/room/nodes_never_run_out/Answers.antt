use Rattle.area_commit.proofs.NodeRoom.{nodes_by_inodes, nodes_by_units, nodes_spare}
use Rattle.area_commit.proofs.room.nodes_never_run_out.Goals as goal

pub returns : goal.returns
returns c = record { inodes = nodes_by_inodes; units = nodes_by_units; spare = nodes_spare }
