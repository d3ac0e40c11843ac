use Rattle.std.proofs.Common.{arith}
use Rattle.std.proofs.lemmas.List.Folds.{list_all_more}
use Rattle.shared_area.specs.layout.declared.marks.Mark.{Mark}
use Rattle.shared_area.specs.layout.Marks.{fits_mark}
use Rattle.digester.proofs.digest_marks.marks_fit.Goals as goal

pub loop-mark-preserved : goal.loop-mark-preserved
loop-mark-preserved c =
    let first : Mark = record { generation = 0; done = 0 } in
    let more = list_all_more fits_mark c.args.marks.now c.loop-mark.mark-index first (omega arith) in
    let before = c.loop-mark.invariant in
    grind (arith, more, before)
