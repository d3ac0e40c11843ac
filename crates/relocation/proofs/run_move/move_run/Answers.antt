use Rattle.std.proofs.Common.{◌<◌, ◌+◌, ℕ, refl, sym, subst, arith}
use Rattle.std.specs.Prelude.{IsSome, Err}
use Rattle.std.proofs.lemmas.Result.{err_from_is_err_and}
use Rattle.inode_plan.specs.area_reader.Store.{logical_block}
use Rattle.inode_plan.proofs.area_reader_lemmas.Looked.{carried}
use Rattle.inode_plan.proofs.area_reader_lemmas.Shown.{slot_limits}
use Rattle.inode_plan.proofs.area_commit_lemmas.Course.{Rests}
use Rattle.relocation.specs.MovableFile.{IsMovableRun}
use Rattle.inode_plan.specs.Lists.{HoldsRun}
use Rattle.inode_plan.specs.area_reader.declared.error.AreaError.TheVariants.{NoBlock}
use Rattle.inode_plan.proofs.Steps.{inside}
use Rattle.relocation.proofs.Ending.{block_fault, block_memory, forced_only, forced_change, settled_still, still_self, ends_refused, ends_told, ends_on}
use Rattle.relocation.proofs.Pooled.{same_self}
use Rattle.relocation.proofs.run_move.move_run.Goals as goal

-- ---- where too few blocks are free

pub returns-then-free-moved-clause-ends : goal.returns-then-free-moved-clause-ends
returns-then-free-moved-clause-ends g c =
    let m = g.M.Media in
    let old = c.args.journal.now in
    let f = c.args.moved.file in
    let rests : Rests m old.geometry old.media = record { sizes = c.left_now.ensures.sizes c.requires.going; journal = c.left_now.ensures.journal c.requires.going; rest = c.requires.settled.rests } in
    ends_refused m g.met.M.Media.sized c.args.moved.inode f.run.first f.run.count c.args.moved.to old old c.args.pools.now NoBlock block_fault rests (still_self m g.met.M.Media.sized old) refl c.requires.going refl c.requires.settled

pub returns-then-free-moved-clause-same : goal.returns-then-free-moved-clause-same
returns-then-free-moved-clause-same g c = same_self c.args.pools.now

pub returns-then-free-moved-clause-few : goal.returns-then-free-moved-clause-few
returns-then-free-moved-clause-few g c is = subst (λ (n : ℕ). n < c.args.moved.file.run.count) c.free-free.ensures.count c.if-free-moved.true

pub returns-then-free-moved-clause-only : goal.returns-then-free-moved-clause-only
returns-then-free-moved-clause-only g c = tt

-- ---- else

pub read_run-requires-clause-few : goal.read_run-requires-clause-few
read_run-requires-clause-few g c =
    let few = (slot_limits c.args.journal.now.geometry c.args.moved.file.slot c.requires.file.fits).few in
    let within = c.requires.file.within_file.within in
    omega (arith, few, within)

pub read_run-requires-clause-once : goal.read_run-requires-clause-once
read_run-requires-clause-once g c = (c.requires.settled.opens.spelled.inodes c.args.moved.inode c.requires.file.number).once

pub read_run-requires-clause-lie : goal.read_run-requires-clause-lie
read_run-requires-clause-lie g c n lt =
    let f = c.args.moved.file in
    let a = c.requires.file.can.above (f.run.first + n) (inside f.run.first f.run.count (f.run.first + n) (omega arith) (omega (arith, lt))) in
    (a.0, subst IsSome (sym (c.requires.file.places a.0 (f.run.first + n))) a.2)

pub move_bytes-requires-clause-going : goal.move_bytes-requires-clause-going
move_bytes-requires-clause-going g c = c.in_ok-bytes.ensures.looks.going.1

pub move_bytes-requires-clause-settled : goal.move_bytes-requires-clause-settled
move_bytes-requires-clause-settled g c =
    let m = g.M.Media in
    let looks = c.in_ok-bytes.ensures.looks in
    settled_still m g.met.M.Media.sized c.args.journal.now c.read_run.new.journal c.args.pools.now looks.unmoved looks.geometry c.requires.settled

pub move_bytes-requires-clause-file : goal.move_bytes-requires-clause-file
move_bytes-requires-clause-file g c =
    let m = g.M.Media in
    let f = c.args.moved.file in
    carried m (λ h s. IsMovableRun h s c.args.moved.inode f.run.first f.run.count c.args.moved.to f) c.args.journal.now c.read_run.new.journal _ c.in_ok-bytes.ensures.looks c.requires.file

pub move_bytes-requires-clause-holds : goal.move_bytes-requires-clause-holds
move_bytes-requires-clause-holds g c =
    let m = g.M.Media in
    let f = c.args.moved.file in
    carried m (λ h s. HoldsRun (logical_block h s c.args.moved.inode) f.run.first f.run.count c.in_ok-bytes.bytes.items) c.args.journal.now c.read_run.new.journal _ c.in_ok-bytes.ensures.looks c.in_ok-bytes.ensures.bytes

pub returns-clause-ends : goal.returns-clause-ends
returns-clause-ends g c =
    let m = g.M.Media in
    let f = c.args.moved.file in
    let looks = c.in_ok-bytes.ensures.looks in
    ends_on m g.met.M.Media.sized c.args.moved.inode f.run.first f.run.count c.args.moved.to c.args.journal.now c.read_run.new.journal c.move_bytes.new.journal c.move_bytes.new.pools c.move_bytes.result looks.unmoved looks.geometry looks.quiet
    c.move_bytes.ensures.ends

pub returns-in_err-bytes-clause-ends : goal.returns-in_err-bytes-clause-ends
returns-in_err-bytes-clause-ends g c =
    let p = err_from_is_err_and c.from_residual.result c.from_residual.ensures.1 in
    let m = g.M.Media in
    let old = c.args.journal.now in
    let f = c.args.moved.file in
    let rests : Rests m old.geometry old.media = record { sizes = c.left_now.ensures.sizes c.requires.going; journal = c.left_now.ensures.journal c.requires.going; rest = c.requires.settled.rests } in
    rw (p.1, p.2) (ends_told m g.met.M.Media.sized c.args.moved.inode f.run.first f.run.count c.args.moved.to old c.read_run.new.journal c.args.pools.now c.in_err-bytes.field-0.0 c.in_err-bytes.ensures.only c.in_err-bytes.ensures.looks c.requires.going rests c.requires.settled)

pub returns-in_err-bytes-clause-same : goal.returns-in_err-bytes-clause-same
returns-in_err-bytes-clause-same g c =
    let p = err_from_is_err_and c.from_residual.result c.from_residual.ensures.1 in
    rw p.1 (same_self c.args.pools.now)

pub returns-in_err-bytes-clause-few : goal.returns-in_err-bytes-clause-few
returns-in_err-bytes-clause-few g c =
    let p = err_from_is_err_and c.from_residual.result c.from_residual.ensures.1 in
    rw (p.1, p.2) (λ is. absurd (forced_only (Err c.in_err-bytes.field-0.0) NoBlock c.in_err-bytes.ensures.only block_fault block_memory is))

pub returns-in_err-bytes-clause-only : goal.returns-in_err-bytes-clause-only
returns-in_err-bytes-clause-only g c =
    let p = err_from_is_err_and c.from_residual.result c.from_residual.ensures.1 in
    rw (p.1, p.2) (forced_change (Err c.in_err-bytes.field-0.0) c.in_err-bytes.ensures.only)
