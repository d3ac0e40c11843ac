use Rattle.extent_tree.proofs.Moved.{put_apart, cut_apart}
use Rattle.extent_tree.proofs.map_laws.put_blocks_lie_apart.Goals as goal

pub returns : goal.returns
returns c = record { put = put_apart; cut = cut_apart }
