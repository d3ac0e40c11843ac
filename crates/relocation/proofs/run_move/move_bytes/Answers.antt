use Rattle.std.proofs.Common.{◌≤◌, ◌<◌, refl, subst, arith}
use Rattle.std.specs.Prelude.{OnOk}
use Rattle.std.proofs.lemmas.Result.{err_from_is_err_and}
use Rattle.inode_plan.proofs.area_reader_lemmas.Shown.{slot_limits}
use Rattle.inode_plan.proofs.area_commit_lemmas.Course.{Rests}
use Rattle.inode_plan.specs.area_reader.declared.error.AreaError.TheVariants.{NoBlock, Memory}
use Rattle.relocation.proofs.Ending.{err_same, memory_fault, memory_block, err_with, still_self, ends_refused}
use Rattle.relocation.proofs.Pooled.{settled_same, same_then, same_count}
use Rattle.relocation.proofs.run_move.move_bytes.Goals as goal

pub lost_places-requires : goal.lost_places-requires
lost_places-requires g c =
    let few = (slot_limits c.args.journal.now.geometry c.args.moved.file.slot c.requires.file.fits).few in
    let within = c.requires.file.within_file.within in
    omega (arith, few, within)

pub allocate_run-requires-clause-settled : goal.allocate_run-requires-clause-settled
allocate_run-requires-clause-settled g c =
    let m = g.M.Media in
    let old = c.args.journal.now in
    settled_same old.geometry (m.seen old.media) (m.left old.media (m.moment old.media)) c.args.pools.now c.lost_places.new.pools c.lost_places.ensures.same c.requires.settled

pub allocate_run-requires-clause-run : goal.allocate_run-requires-clause-run
allocate_run-requires-clause-run g c = record { file = c.requires.file; holds = c.requires.holds; size = c.requires.size; places = c.in_ok-lost.ensures.places; some = c.in_ok-lost.ensures.some }

pub allocate_run-requires-clause-room : goal.allocate_run-requires-clause-room
allocate_run-requires-clause-room g c = record { nodes = c.in_ok-lost.ensures.nodes; per_tier = c.in_ok-lost.ensures.room }

pub returns-clause-same : goal.returns-clause-same
returns-clause-same g c = err_with c.allocate_run.result (same_then c.args.pools.now c.lost_places.new.pools c.allocate_run.new.pools c.lost_places.ensures.same) c.allocate_run.ensures.same

pub returns-clause-enough : goal.returns-clause-enough
returns-clause-enough g c = subst (λ n. OnOk c.allocate_run.result (c.args.moved.file.run.count ≤ n)) (same_count c.args.pools.now c.lost_places.new.pools c.lost_places.ensures.same c.args.moved.to) c.allocate_run.ensures.enough

pub returns-clause-few : goal.returns-clause-few
returns-clause-few g c is = subst (λ n. n < c.args.moved.file.run.count) (same_count c.args.pools.now c.lost_places.new.pools c.lost_places.ensures.same c.args.moved.to) (c.allocate_run.ensures.few is)

pub returns-in_err-lost-clause-ends : goal.returns-in_err-lost-clause-ends
returns-in_err-lost-clause-ends g c =
    let m = g.M.Media in
    let old = c.args.journal.now in
    let f = c.args.moved.file in
    let pools = c.lost_places.new.pools in
    let rests : Rests m old.geometry old.media = record { sizes = c.left_now.ensures.sizes c.requires.going; journal = c.left_now.ensures.journal c.requires.going; rest = c.requires.settled.rests } in
    let settled = settled_same old.geometry (m.seen old.media) (m.left old.media (m.moment old.media)) c.args.pools.now pools c.lost_places.ensures.same c.requires.settled in
    let p = err_from_is_err_and c.from_residual.result c.from_residual.ensures.1 in
    rw (p.1, p.2) (ends_refused m g.met.M.Media.sized c.args.moved.inode f.run.first f.run.count c.args.moved.to old old pools Memory memory_fault rests (still_self m g.met.M.Media.sized old) refl c.requires.going refl settled)

pub returns-in_err-lost-clause-few : goal.returns-in_err-lost-clause-few
returns-in_err-lost-clause-few g c =
    let p = err_from_is_err_and c.from_residual.result c.from_residual.ensures.1 in
    rw (p.1, p.2) (λ is. absurd (memory_block (err_same Memory NoBlock is)))

pub returns-in_err-lost-clause-only : goal.returns-in_err-lost-clause-only
returns-in_err-lost-clause-only g c =
    let p = err_from_is_err_and c.from_residual.result c.from_residual.ensures.1 in
    rw (p.1, p.2) tt
