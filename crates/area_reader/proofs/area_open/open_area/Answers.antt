use Rattle.std.proofs.Common.{◌≡◌, ◌∙◌, ℕ, Some, ap, sym}
use Rattle.std.proofs.lemmas.Result.{on_ok_weaker, IfOk-weaker, IfErr-weaker}
use Rattle.std.specs.Prelude.{◌↔◌, Ok}
use Rattle.tier_device.specs.declared.media.Tier.{Tier}
use Rattle.batch_journal.specs.file_graph.Units.{charge}
use Rattle.batch_journal.specs.layout.Places.{tier_blocks}
use Rattle.area_reader.specs.Store.{disk, graph}
use Rattle.area_reader.specs.Format.{Use, used_block, IsOpenable}
use Rattle.area_reader.specs.BlockMarks.{IsMarked}
use Rattle.area_reader.proofs.Damages.{damage_none, is_some_at}
use Rattle.area_reader.proofs.Parts.{on_damage}
use Rattle.area_reader.proofs.Looked.{carried_back, looks_on}
use Rattle.area_reader.specs.Damage.{IsDamaged}
use Rattle.area_reader.proofs.area_open.open_area.Goals as goal

pub returns-clause-openable : goal.returns-clause-openable
returns-clause-openable g c =
    let m = g.M.Media in
    on_ok_weaker c.read_inodes.result (λ is. carried_back m IsOpenable c.args.journal.now c.read_marks.new.journal (Ok c.in_ok-marks.marks) c.in_ok-marks.ensures.looks is) c.read_inodes.ensures.openable

pub returns-clause-used : goal.returns-clause-used
returns-clause-used g c =
    let m = g.M.Media in
    IfOk-weaker c.read_inodes.result _ _ (λ found used. carried_back m (λ x s. (t : Tier) (k : ℕ) → IsMarked found.used t k ↔ ((u : Use) × (used_block x s u ≡ Some (t, k)))) c.args.journal.now c.read_marks.new.journal (Ok c.in_ok-marks.marks) c.in_ok-marks.ensures.looks used) c.read_inodes.ensures.used

pub returns-clause-unopenable : goal.returns-clause-unopenable
returns-clause-unopenable g c =
    let m = g.M.Media in
    let old = c.args.journal.now in
    IfErr-weaker c.read_inodes.result _ _ (λ e damaged. on_damage e (λ w b d is. damage_none old.geometry (disk m old) w b (carried_back m (λ x s. IsDamaged x s w b) old c.read_marks.new.journal (Ok c.in_ok-marks.marks) c.in_ok-marks.ensures.looks d) is.spelled is.units) damaged) c.read_inodes.ensures.damaged

pub returns-clause-charge : goal.returns-clause-charge
returns-clause-charge g c =
    let m = g.M.Media in
    IfOk-weaker c.read_inodes.result _ _ (λ found is. carried_back m (λ x s. found.charge ≡ charge (graph x s)) c.args.journal.now c.read_marks.new.journal (Ok c.in_ok-marks.marks) c.in_ok-marks.ensures.looks is) c.read_inodes.ensures.charge

pub returns-clause-damaged : goal.returns-clause-damaged
returns-clause-damaged g c =
    let m = g.M.Media in
    IfErr-weaker c.read_inodes.result _ _ (λ e damaged. on_damage e (λ w b d. carried_back m (λ x s. IsDamaged x s w b) c.args.journal.now c.read_marks.new.journal (Ok c.in_ok-marks.marks) c.in_ok-marks.ensures.looks d) damaged) c.read_inodes.ensures.damaged

pub returns-clause-looks : goal.returns-clause-looks
returns-clause-looks g c =
    looks_on g.M.Media c.args.journal.now c.read_marks.new.journal c.read_inodes.new.journal c.in_ok-marks.marks c.read_inodes.result c.in_ok-marks.ensures.looks c.read_inodes.ensures.looks

pub returns-clause-marks : goal.returns-clause-marks
returns-clause-marks g c = IfOk-weaker c.read_inodes.result _ _ (λ found is. c.in_ok-marks.ensures.marks ∙ ap Some (sym is)) c.read_inodes.ensures.marks

pub returns-clause-room : goal.returns-clause-room
returns-clause-room g c = IfOk-weaker c.read_inodes.result _ _ (λ found room t. room t ∙ ap (λ x. tier_blocks x t) c.in_ok-marks.ensures.looks.geometry) c.read_inodes.ensures.room

pub returns-clause-memory : goal.returns-clause-memory
returns-clause-memory g c = IfErr-weaker c.read_inodes.result _ _ (λ e damaged is. is_some_at _ c.in_ok-marks.marks c.in_ok-marks.ensures.marks) c.read_inodes.ensures.damaged
