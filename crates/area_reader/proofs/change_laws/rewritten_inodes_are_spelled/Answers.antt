use Rattle.area_reader.proofs.Rewriting.{new_spelled, other_inode, other_use}
use Rattle.area_reader.proofs.change_laws.rewritten_inodes_are_spelled.Goals as goal

pub returns : goal.returns
returns c = record { spelled = new_spelled; others = other_inode; uses_stay = other_use }
