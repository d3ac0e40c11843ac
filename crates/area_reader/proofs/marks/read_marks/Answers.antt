use Rattle.std.proofs.Common.{◌∙◌, refl, sym, ap, subst}
use Rattle.batch_journal.specs.layout.Marks.{marks_of}
use Rattle.batch_journal.proofs.Courses.{if_ok, if_err}
use Rattle.area_reader.specs.declared.error.AreaError.{AreaError}
use Rattle.area_reader.specs.Damage.{OnDamage, IsMarksDamage}
use Rattle.area_reader.specs.Store.{disk}
use Rattle.area_reader.proofs.marks.read_marks.Goals as goal

pub returns-clause-marks : goal.returns-clause-marks
returns-clause-marks g c = if_ok c.marks_in.result (λ m is. ap marks_of (sym c.in_ok-read_block.ensures.bytes) ∙ is) c.marks_in.ensures.marks

pub returns-clause-damaged : goal.returns-clause-damaged
returns-clause-damaged g c =
    let s = disk g.M.Media c.args.journal.now in
    if_err c.marks_in.result (λ e is. subst (λ (e : AreaError). OnDamage e (IsMarksDamage s)) (sym is.0)
    (record { structure = refl; at = refl; none = ap marks_of (sym c.in_ok-read_block.ensures.bytes) ∙ is.1 })) c.marks_in.ensures.damaged
