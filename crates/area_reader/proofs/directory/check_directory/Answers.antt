use Rattle.std.proofs.Common.{◌+◌, Err, sym, subst, arith}
use Rattle.std.proofs.lemmas.Result.{err_from_is_err_and}
use Rattle.area_reader.specs.Store.{disk}
use Rattle.area_reader.specs.Looks.{call_answer}
use Rattle.area_reader.specs.Checks.{IsEntries, HasFound, AreFirstParts, HasPart, IsDirectoryDamageOf}
use Rattle.area_reader.proofs.Parts.{on_damage}
use Rattle.area_reader.proofs.Looked.{carried, carried_back, looks_on, looks_none}
use Rattle.area_reader.proofs.Twins.{first_none, first_all}
use Rattle.area_reader.proofs.directory.check_directory.Goals as goal

pub check_part-requires-clause-directory : goal.check_part-requires-clause-directory
check_part-requires-clause-directory g c =
    let m = g.M.Media in
    carried m (λ x s. IsEntries x s c.args.inode c.args.entries) c.args.journal.now c.parts.journal call_answer c.parts.invariant.looks c.requires.directory

pub check_part-requires-clause-found : goal.check_part-requires-clause-found
check_part-requires-clause-found g c =
    let m = g.M.Media in
    carried m (λ x s. HasFound x s c.args.inode c.args.found.now) c.args.journal.now c.parts.journal call_answer c.parts.invariant.looks c.requires.found

pub check_part-requires-clause-before : goal.check_part-requires-clause-before
check_part-requires-clause-before g c =
    let m = g.M.Media in
    carried m (λ x s. AreFirstParts x s c.args.inode c.args.entries c.parts.number c.parts.names) c.args.journal.now c.parts.journal call_answer c.parts.invariant.looks c.parts.invariant.before

pub check_part-requires-clause-going : goal.check_part-requires-clause-going
check_part-requires-clause-going g c = c.parts.invariant.looks.going.1

pub parts-init : goal.parts-init
parts-init g c =
    let m = g.M.Media in
    let old = c.args.journal.now in
    record {
      looks = looks_none m old tt c.requires.going;
      before = subst (AreFirstParts old.geometry (disk m old) c.args.inode c.args.entries 0) (sym c.new-names.ensures) (first_none old.geometry (disk m old) c.args.inode c.args.entries);
    }

pub parts-preserved : goal.parts-preserved
parts-preserved g c =
    let m = g.M.Media in
    let old = c.args.journal.now in
    let first = c.parts.invariant.looks in
    record {
      looks = looks_on m old c.parts.journal c.check_part.new.journal tt call_answer first c.in_ok-check_part.ensures.looks;
      before = carried_back m (λ x s. AreFirstParts x s c.args.inode c.args.entries (c.parts.number + 1) c.check_part.new.names) old c.parts.journal call_answer first c.in_ok-check_part.ensures.parts;
    }

pub returns-in_err-check_part-clause-damaged : goal.returns-in_err-check_part-clause-damaged
returns-in_err-check_part-clause-damaged g c =
    let m = g.M.Media in
    let p = err_from_is_err_and c.from_residual.result c.from_residual.ensures.1 in
    rw (p.1, p.2) (on_damage c.in_err-check_part.field-0.0 (λ w b d. carried_back m (λ x s. IsDirectoryDamageOf x s c.args.inode w b) c.args.journal.now c.parts.journal call_answer c.parts.invariant.looks d) c.in_err-check_part.ensures.damaged)

pub returns-in_err-check_part-clause-memory : goal.returns-in_err-check_part-clause-memory
returns-in_err-check_part-clause-memory g c =
    let m = g.M.Media in
    let p = err_from_is_err_and c.from_residual.result c.from_residual.ensures.1 in
    rw (p.1, p.2) (λ is. carried_back m (λ x s. HasPart x s c.args.inode) c.args.journal.now c.parts.journal call_answer c.parts.invariant.looks (c.in_err-check_part.ensures.memory is))

pub returns-in_err-check_part-clause-looks : goal.returns-in_err-check_part-clause-looks
returns-in_err-check_part-clause-looks g c =
    let m = g.M.Media in
    let p = err_from_is_err_and c.from_residual.result c.from_residual.ensures.1 in
    rw (p.1, p.2) (looks_on m c.args.journal.now c.parts.journal c.check_part.new.journal tt (Err c.in_err-check_part.field-0.0) c.parts.invariant.looks c.in_err-check_part.ensures.looks)

pub returns-clause-directory : goal.returns-clause-directory
returns-clause-directory g c =
    let old = c.args.journal.now in
    let past = c.parts-test.false in
    let end = c.parts.auto.number-end in
    first_all old.geometry (disk g.M.Media old) c.args.inode c.args.entries c.parts.number c.parts.names c.parts.invariant.before (omega (arith, past, end))

pub returns-clause-looks : goal.returns-clause-looks
returns-clause-looks g c = c.parts.invariant.looks
