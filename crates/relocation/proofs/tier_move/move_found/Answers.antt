use Rattle.std.proofs.Common.{◌≤◌, ◌<◌, ℕ, length, subst}
use Rattle.std.specs.Prelude.{Err}
use Rattle.std.proofs.lemmas.Result.{err_from_is_err_and}
use Rattle.inode_plan.specs.area_reader.Store.{disk}
use Rattle.inode_plan.proofs.area_reader_lemmas.Looked.{carried}
use Rattle.inode_plan.specs.area_commit.Value.{data_pool}
use Rattle.inode_plan.proofs.area_commit_lemmas.Course.{Rests}
use Rattle.relocation.specs.MovableFile.{IsMovableRun}
use Rattle.inode_plan.specs.area_reader.declared.error.AreaError.TheVariants.{NotMapped, NoBlock, Memory}
use Rattle.relocation.specs.RunMove.{EndsMove}
use Rattle.relocation.proofs.Ending.{mapped_fault, mapped_memory, mapped_block, block_fault, block_memory, err_same, ok_with, forced_change, never_mapped, change_move, sound_forced, forced_only, settled_still, ends_refused, ends_told, ends_on}
use Rattle.relocation.proofs.Pooled.{same_self, own_run, found_run}
use Rattle.relocation.proofs.tier_move.move_found.Goals as goal

pub move_run-requires-clause-going : goal.move_run-requires-clause-going
move_run-requires-clause-going g c = c.in_ok-file.ensures.looks.going.1

pub move_run-requires-clause-settled : goal.move_run-requires-clause-settled
move_run-requires-clause-settled g c =
    let m = g.M.Media in
    let looks = c.in_ok-file.ensures.looks in
    settled_still m g.met.M.Media.sized c.args.journal.now c.find_run.new.journal c.args.pools.now looks.unmoved looks.geometry c.requires.settled

pub move_run-requires-clause-file : goal.move_run-requires-clause-file
move_run-requires-clause-file g c =
    let m = g.M.Media in
    let old = c.args.journal.now in
    let f = c.in-Some.file in
    let is = found_run old.geometry (disk g.M.Media old) c.args.run.inode c.args.run.first c.args.run.count c.args.to c.in_ok-file.field-0 c.in-Some.file c.in-Some.is c.in_ok-file.ensures.found in
    carried m (λ h s. IsMovableRun h s c.args.run.inode f.run.first f.run.count c.args.to f) old c.find_run.new.journal _ c.in_ok-file.ensures.looks
    (own_run old.geometry (disk m old) c.args.run.inode c.args.run.first c.args.run.count c.args.to f is)

pub returns-in-Some-clause-ends : goal.returns-in-Some-clause-ends
returns-in-Some-clause-ends g c =
    let m = g.M.Media in
    let old = c.args.journal.now in
    let new = c.move_run.new.journal in
    let f = c.in-Some.file in
    let is = found_run old.geometry (disk g.M.Media old) c.args.run.inode c.args.run.first c.args.run.count c.args.to c.in_ok-file.field-0 c.in-Some.file c.in-Some.is c.in_ok-file.ensures.found in
    let looks = c.in_ok-file.ensures.looks in
    let ends = ends_on m g.met.M.Media.sized c.args.run.inode f.run.first f.run.count c.args.to old c.find_run.new.journal new c.move_run.new.pools c.move_run.result looks.unmoved looks.geometry looks.quiet c.move_run.ensures.ends in
    subst (λ (n : ℕ). EndsMove m c.args.run.inode c.args.run.first n c.args.to old new c.move_run.new.pools c.move_run.result) is.count_is (
    subst (λ (n : ℕ). EndsMove m c.args.run.inode n f.run.count c.args.to old new c.move_run.new.pools c.move_run.result) is.first_is ends
    )

pub returns-in-Some-clause-can : goal.returns-in-Some-clause-can
returns-in-Some-clause-can g c =
    let old = c.args.journal.now in
    let free = length (data_pool c.args.pools.now c.args.to).free in
    let is = found_run old.geometry (disk g.M.Media old) c.args.run.inode c.args.run.first c.args.run.count c.args.to c.in_ok-file.field-0 c.in-Some.file c.in-Some.is c.in_ok-file.ensures.found in
    ok_with c.move_run.result (λ (enough : c.in-Some.file.run.count ≤ length (data_pool c.args.pools.now c.args.to).free). (is.can, subst (λ (n : ℕ). n ≤ free) is.count_is enough)) c.move_run.ensures.enough

pub returns-in-Some-clause-not_mapped : goal.returns-in-Some-clause-not_mapped
returns-in-Some-clause-not_mapped g c none = absurd (never_mapped c.move_run.result c.move_run.ensures.only none)

pub returns-in-Some-clause-no_block : goal.returns-in-Some-clause-no_block
returns-in-Some-clause-no_block g c none =
    let old = c.args.journal.now in
    let free = length (data_pool c.args.pools.now c.args.to).free in
    let is = found_run old.geometry (disk g.M.Media old) c.args.run.inode c.args.run.first c.args.run.count c.args.to c.in_ok-file.field-0 c.in-Some.file c.in-Some.is c.in_ok-file.ensures.found in
    (is.can, subst (λ (n : ℕ). free < n) is.count_is (c.move_run.ensures.few none))

pub returns-in-Some-clause-memory : goal.returns-in-Some-clause-memory
returns-in-Some-clause-memory g c full =
    let old = c.args.journal.now in
    let f = c.in-Some.file in
    let is = found_run old.geometry (disk g.M.Media old) c.args.run.inode c.args.run.first c.args.run.count c.args.to c.in_ok-file.field-0 f c.in-Some.is c.in_ok-file.ensures.found in
    record { file = f.slot; slot_is = is.slot_is; within = is.within_file }

pub returns-in-Some-clause-only : goal.returns-in-Some-clause-only
returns-in-Some-clause-only g c = change_move c.move_run.result c.move_run.ensures.only

pub returns-in-None-clause-ends : goal.returns-in-None-clause-ends
returns-in-None-clause-ends g c =
    let m = g.M.Media in
    let old = c.args.journal.now in
    let rests : Rests m old.geometry old.media = record { sizes = c.left_now.ensures.sizes c.requires.going; journal = c.left_now.ensures.journal c.requires.going; rest = c.requires.settled.rests } in
    let looks = c.in_ok-file.ensures.looks in
    ends_refused m g.met.M.Media.sized c.args.run.inode c.args.run.first c.args.run.count c.args.to old c.find_run.new.journal c.args.pools.now NotMapped mapped_fault rests looks.unmoved looks.geometry looks.going.1 looks.quiet c.requires.settled

pub returns-in-None-clause-same : goal.returns-in-None-clause-same
returns-in-None-clause-same g c = same_self c.args.pools.now

pub returns-in-None-clause-not_mapped : goal.returns-in-None-clause-not_mapped
returns-in-None-clause-not_mapped g c is = c.in_ok-file.ensures.none c.in-None.is

pub returns-in-None-clause-no_block : goal.returns-in-None-clause-no_block
returns-in-None-clause-no_block g c is = absurd (mapped_block (err_same NotMapped NoBlock is))

pub returns-in-None-clause-memory : goal.returns-in-None-clause-memory
returns-in-None-clause-memory g c is = absurd (mapped_memory (err_same NotMapped Memory is))

pub returns-in_err-file-clause-ends : goal.returns-in_err-file-clause-ends
returns-in_err-file-clause-ends g c =
    let p = err_from_is_err_and c.from_residual.result c.from_residual.ensures.1 in
    let m = g.M.Media in
    let old = c.args.journal.now in
    let rests : Rests m old.geometry old.media = record { sizes = c.left_now.ensures.sizes c.requires.going; journal = c.left_now.ensures.journal c.requires.going; rest = c.requires.settled.rests } in
    rw (p.1, p.2) (ends_told m g.met.M.Media.sized c.args.run.inode c.args.run.first c.args.run.count c.args.to old c.find_run.new.journal c.args.pools.now c.in_err-file.field-0.0 (sound_forced c.in_err-file.field-0.0 c.in_err-file.ensures.only) c.in_err-file.ensures.looks c.requires.going rests c.requires.settled)

pub returns-in_err-file-clause-same : goal.returns-in_err-file-clause-same
returns-in_err-file-clause-same g c =
    let p = err_from_is_err_and c.from_residual.result c.from_residual.ensures.1 in
    rw p.1 (same_self c.args.pools.now)

pub returns-in_err-file-clause-not_mapped : goal.returns-in_err-file-clause-not_mapped
returns-in_err-file-clause-not_mapped g c =
    let p = err_from_is_err_and c.from_residual.result c.from_residual.ensures.1 in
    rw (p.1, p.2) (λ is. absurd (forced_only (Err c.in_err-file.field-0.0) NotMapped (sound_forced c.in_err-file.field-0.0 c.in_err-file.ensures.only) mapped_fault mapped_memory is))

pub returns-in_err-file-clause-no_block : goal.returns-in_err-file-clause-no_block
returns-in_err-file-clause-no_block g c =
    let p = err_from_is_err_and c.from_residual.result c.from_residual.ensures.1 in
    rw (p.1, p.2) (λ is. absurd (forced_only (Err c.in_err-file.field-0.0) NoBlock (sound_forced c.in_err-file.field-0.0 c.in_err-file.ensures.only) block_fault block_memory is))

pub returns-in_err-file-clause-memory : goal.returns-in_err-file-clause-memory
returns-in_err-file-clause-memory g c =
    let p = err_from_is_err_and c.from_residual.result c.from_residual.ensures.1 in
    rw (p.1, p.2) (λ is. c.in_err-file.ensures.memory (err_same c.in_err-file.field-0.0 Memory is))

pub returns-in_err-file-clause-only : goal.returns-in_err-file-clause-only
returns-in_err-file-clause-only g c =
    let p = err_from_is_err_and c.from_residual.result c.from_residual.ensures.1 in
    rw (p.1, p.2) (change_move (Err c.in_err-file.field-0.0) (forced_change (Err c.in_err-file.field-0.0) (sound_forced c.in_err-file.field-0.0 c.in_err-file.ensures.only)))
