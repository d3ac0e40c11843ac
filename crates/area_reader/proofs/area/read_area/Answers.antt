use Rattle.std.proofs.Common.{◌≡◌, ◌+◌, ◌⊎◌, ◌∙◌, Err, sym, arith}
use Rattle.std.proofs.lemmas.Result.{err_from_is_err_and}
use Rattle.area_reader.specs.Store.{disk, graph}
use Rattle.batch_journal.specs.file_graph.Graph.{cost}
use Rattle.area_reader.proofs.Costs.{total_none, total_more, total_all}
use Rattle.area_reader.specs.Format.{SpellsInode}
use Rattle.area_reader.specs.Damage.{IsDamaged}
use Rattle.area_reader.specs.Map.{WantsMemory}
use Rattle.area_reader.specs.Checks.{HasPart}
use Rattle.area_reader.specs.Looks.{call_answer}
use Rattle.area_reader.specs.MediumUse.{MarksUses}
use Rattle.area_reader.proofs.Parts.{on_damage}
use Rattle.area_reader.proofs.Looked.{carried, carried_back, looks_on, looks_none, looks_answer}
use Rattle.area_reader.proofs.Sharing.{marks_none, all_once, all_marked, spelled_more, spelled_all}
use Rattle.area_reader.proofs.area.read_area.Goals as goal

pub inodes-init : goal.inodes-init
inodes-init g c =
    let m = g.M.Media in
    let old = c.args.journal.now in
    record {
      looks = looks_none m old tt (sym c.has_failed.ensures ∙ c.if-has_failed.false);
      total = total_none (graph old.geometry (disk m old));
      few = omega arith;
      marks = marks_none old.geometry (disk m old) c.args.used.now c.requires.room c.requires.none;
      spelled = λ i first last. absurd (omega (arith, first, last));
    }

pub add_inode-requires-clause-before : goal.add_inode-requires-clause-before
add_inode-requires-clause-before g c =
    let m = g.M.Media in
    carried m (λ x s. MarksUses x s c.inodes.inode c.inodes.used) c.args.journal.now c.inodes.journal call_answer c.inodes.invariant.looks c.inodes.invariant.marks

pub inodes-preserved : goal.inodes-preserved
inodes-preserved g c =
    let m = g.M.Media in
    let old = c.args.journal.now in
    let first = c.inodes.invariant.looks in
    let here = carried_back m (λ x s. SpellsInode x s c.inodes.inode) old c.inodes.journal call_answer first c.in_ok-units.ensures.spelled in
    record {
      looks = looks_on m old c.inodes.journal c.add_inode.new.journal tt call_answer first
          (looks_answer m c.inodes.journal c.add_inode.new.journal c.in_ok-units.field-0 tt c.in_ok-units.ensures.looks);
      total = total_more (graph old.geometry (disk m old)) c.inodes.inode c.inodes.units c.in_ok-units.field-0 c.inodes.auto.inode c.inodes.invariant.total
          (carried_back m (λ x s. c.in_ok-units.field-0 ≡ cost (graph x s c.inodes.inode)) old c.inodes.journal call_answer first c.in_ok-units.ensures.units);
      few = (let low = c.inodes.auto.inode in let few = c.inodes.invariant.few in let small = c.in_ok-units.ensures.small in omega (arith, low, few, small));
      marks = carried_back m (λ x s. MarksUses x s (c.inodes.inode + 1) c.add_inode.new.used) old c.inodes.journal call_answer first c.in_ok-units.ensures.marks;
      spelled = spelled_more old.geometry (disk m old) c.inodes.inode c.inodes.invariant.spelled here;
    }

pub returns-in_err-units-clause-damaged : goal.returns-in_err-units-clause-damaged
returns-in_err-units-clause-damaged g c =
    let m = g.M.Media in
    let p = err_from_is_err_and c.from_residual.result c.from_residual.ensures.1 in
    rw (p.1, p.2) (on_damage c.in_err-units.field-0.0 (λ w b d. carried_back m (λ x s. IsDamaged x s w b) c.args.journal.now c.inodes.journal call_answer c.inodes.invariant.looks d) c.in_err-units.ensures.damaged)

pub returns-in_err-units-clause-memory : goal.returns-in_err-units-clause-memory
returns-in_err-units-clause-memory g c =
    let m = g.M.Media in
    let p = err_from_is_err_and c.from_residual.result c.from_residual.ensures.1 in
    rw (p.1, p.2) (λ is. (c.inodes.inode, carried_back m (λ x s. (WantsMemory x s c.inodes.inode) ⊎ (HasPart x s c.inodes.inode)) c.args.journal.now c.inodes.journal call_answer c.inodes.invariant.looks (c.in_err-units.ensures.memory is)))

pub returns-in_err-units-clause-looks : goal.returns-in_err-units-clause-looks
returns-in_err-units-clause-looks g c =
    let m = g.M.Media in
    let p = err_from_is_err_and c.from_residual.result c.from_residual.ensures.1 in
    rw (p.1, p.2) (looks_on m c.args.journal.now c.inodes.journal c.add_inode.new.journal tt (Err c.in_err-units.field-0.0) c.inodes.invariant.looks c.in_err-units.ensures.looks)

pub returns-clause-inodes : goal.returns-clause-inodes
returns-clause-inodes g c =
    let old = c.args.journal.now in
    spelled_all old.geometry (disk g.M.Media old) c.inodes.inode c.inodes-test.false c.inodes.invariant.spelled

pub returns-clause-apart : goal.returns-clause-apart
returns-clause-apart g c =
    let old = c.args.journal.now in
    all_once old.geometry (disk g.M.Media old) c.inodes.inode c.inodes-test.false c.inodes.used c.inodes.invariant.marks

pub returns-clause-marked : goal.returns-clause-marked
returns-clause-marked g c =
    let old = c.args.journal.now in
    all_marked old.geometry (disk g.M.Media old) c.inodes.inode c.inodes-test.false c.inodes.used c.inodes.invariant.marks

pub returns-clause-looks : goal.returns-clause-looks
returns-clause-looks g c =
    let m = g.M.Media in
    looks_answer m c.args.journal.now c.inodes.journal tt c.inodes.units c.inodes.invariant.looks

pub returns-clause-units : goal.returns-clause-units
returns-clause-units g c =
    let old = c.args.journal.now in
    let last = c.inodes.auto.inode-end in
    total_all (graph old.geometry (disk g.M.Media old)) c.inodes.inode c.inodes.units c.inodes-test.false (last (omega arith)) c.inodes.invariant.total
