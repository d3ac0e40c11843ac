use Rattle.area_reader.proofs.Frames.{loose_graph, loose_slot, loose_place, loose_inode, loose_marks, loose_spelled, loose_free}
use Rattle.area_reader.proofs.laws.free_blocks_are_not_read.Goals as goal

pub returns : goal.returns
returns c = record { graph = loose_graph; slots = loose_slot; places = loose_place; inodes = loose_inode; marks = loose_marks; spelled = loose_spelled; free = loose_free }
