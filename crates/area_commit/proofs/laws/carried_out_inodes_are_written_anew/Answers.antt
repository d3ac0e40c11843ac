use Rattle.area_commit.proofs.Anew.{anew}
use Rattle.area_commit.proofs.laws.carried_out_inodes_are_written_anew.Goals as goal

pub returns : goal.returns
returns c = λ g s x m plan new spelled planned done. anew g s x m plan planned new done spelled c.marks_are_read.ensures
