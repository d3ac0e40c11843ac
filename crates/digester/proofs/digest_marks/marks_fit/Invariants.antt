use Rattle.std.proofs.Common.{◌≡◌, true, take}
use Rattle.std.specs.List.{list_all}
use Rattle.shared_area.specs.layout.Marks.{fits_mark}
use Rattle.digester.proofs.digest_marks.marks_fit.Given as goal

abbrev pub invariant-loop-mark : goal.invariant-loop-mark
invariant-loop-mark l = list_all fits_mark (take l.mark-index l.marks) ≡ true
