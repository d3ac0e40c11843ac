use Rattle.extent_tree.proofs.Moved.{put_within, others_within, cut_within}
use Rattle.extent_tree.proofs.map_laws.put_blocks_lie_within.Goals as goal

pub returns : goal.returns
returns c = record { put = put_within; others = others_within; cut = cut_within }
