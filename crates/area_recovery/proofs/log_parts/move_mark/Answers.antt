use Rattle.std.proofs.Common.{ℕ, Some, ap, sym, ◌∙◌}
use Rattle.std.specs.Prelude.{slice_set}
use Rattle.std.proofs.lemmas.Bool.{false≢true}
use Rattle.recovery_laws.specs.area_reader.Store.{disk}
use Rattle.recovery_laws.specs.layout.declared.marks.Mark.{Mark}
use Rattle.area_recovery.specs.Recovers.{AreThese}
use Rattle.area_recovery.proofs.Changing.{still_stays}
use Rattle.area_recovery.proofs.ClientParts.{lost_stays, mark_set, mark_stands, same_start, start_is}
use Rattle.area_recovery.proofs.DigestAnswers.{each_ok}
use Rattle.area_recovery.proofs.DigestedContents.{eight_marks}
use Rattle.area_recovery.proofs.log_parts.move_mark.Goals as goal

pub returns-then-eq-clause-any_moment : goal.returns-then-eq-clause-any_moment
returns-then-eq-clause-any_moment g c = λ these stands. still_stays g.M.Media g.met.M.Media.seen_now c.args.area.now c.args.area.now (c.left_now.ensures.same c.requires.going) (AreThese these)

pub returns-then-eq-clause-moves : goal.returns-then-eq-clause-moves
returns-then-eq-clause-moves g c =
    let m = g.M.Media in
    let v = c.marks-marks.result in
    let are = c.marks-marks.ensures c.requires.going in
    mark_stands v c.args.client (record { generation = c.args.generation; done = 0 }) (disk m c.args.area.now) (disk m c.args.area.now) c.requires.client (eight_marks v c.marks_can_be_written.ensures) are
    (sym c.mark_of.ensures ∙ same_start c.mark_of.result c.args.generation (sym c.if-eq.ensures)) are

pub returns-clause-any_moment : goal.returns-clause-any_moment
returns-clause-any_moment g c =
    let are = c.marks-marks.ensures c.requires.going in
    λ these stands. lost_stays g.M.Media (AreThese these) _ c.args.area.now.media c.set_marks.new.area.media c.set_marks.ensures.any_moment
    (λ sizes now state so r. false≢true (c.if-eq.ensures ∙ start_is c.mark_of.result c.args.generation (c.mark_of.ensures ∙ stands sizes now state c.marks-marks.result so r are)))

pub returns-clause-moves : goal.returns-clause-moves
returns-clause-moves g c =
    let m = g.M.Media in
    let v = c.marks-marks.result in
    let are = c.marks-marks.ensures c.requires.going in
    let mark : Mark = record { generation = c.args.generation; done = 0 } in
    let eight = eight_marks v c.marks_can_be_written.ensures in
    each_ok c.set_marks.result c.set_marks.ensures.marks (λ set. mark_set v c.args.client mark (disk m c.args.area.now) (disk m c.set_marks.new.area) c.requires.client eight are v.digests
    (set v are ∙ ap (λ (k : ℕ). Some (record { clients = slice_set v.clients k mark; digests = v.digests })) c.client_index.ensures.is))
