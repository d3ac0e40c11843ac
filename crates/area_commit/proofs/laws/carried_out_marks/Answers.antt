use Rattle.area_commit.proofs.Anew.{marks_put, marks_kept}
use Rattle.area_commit.proofs.laws.carried_out_marks.Goals as goal

pub returns : goal.returns
returns c = record { put = λ g s plan new v done. marks_put g s plan new done c.marks_are_read.ensures v; kept = λ g s plan new done. marks_kept g s plan new done }
