use Rattle.std.proofs.Common.{refl, sym, subst}
use Rattle.std.specs.Prelude.{OnErr}
use Rattle.inode_plan.specs.layout.Places.{IsAllowed}
use Rattle.inode_plan.specs.area_reader.Store.{disk}
use Rattle.inode_plan.specs.area_commit.declared.allocation.Allocation.{Allocation}
use Rattle.inode_plan.specs.area_commit.Allocations.{CanRelease, WasReleased}
use Rattle.inode_plan.proofs.area_commit_lemmas.Course.{Rests}
use Rattle.inode_plan.specs.area_reader.declared.error.AreaError.TheVariants.{Memory}
use Rattle.relocation.specs.RunMove.{IsSettled}
use Rattle.relocation.proofs.Ending.{memory_fault, still_self, ends_refused}
use Rattle.relocation.proofs.Pooled.{ready_for, settled_undone}
use Rattle.relocation.proofs.run_move.carry.Goals as goal

pub plan_move-requires : goal.plan_move-requires
plan_move-requires g c =
    let old = c.args.journal.now in
    (old.geometry, disk g.M.Media old, subst IsAllowed c.geometry.ensures c.units-units.ensures.allowed, c.requires.ready)

pub write_move-requires-clause-plan : goal.write_move-requires-clause-plan
write_move-requires-clause-plan g c =
    let old = c.args.journal.now in
    let f = c.args.moved.file in
    (c.args.moved.inode, f.run.first, f.run.count, c.args.moved.to, c.in-Ok.ensures.plan old.geometry (disk g.M.Media old) c.requires.ready)

pub write_move-requires-clause-pools : goal.write_move-requires-clause-pools
write_move-requires-clause-pools g c =
    let old = c.args.journal.now in
    ready_for old.geometry (disk g.M.Media old) c.args.pools.now c.args.taken c.args.moved.lost c.in-Ok.plan c.requires.pools c.in-Ok.ensures.taken c.in-Ok.ensures.lost c.in-Ok.ensures.few

pub release-requires : goal.release-requires
release-requires g c = subst (λ (v : Allocation). CanRelease c.args.pools.now v) (sym c.in-Err.ensures.refused) c.requires.pools.undo

pub returns-in-Ok-clause-ends : goal.returns-in-Ok-clause-ends
returns-in-Ok-clause-ends g c =
    let old = c.args.journal.now in
    let f = c.args.moved.file in
    c.write_move.ensures.ends c.args.moved.inode f.run.first f.run.count c.args.moved.to (c.in-Ok.ensures.plan old.geometry (disk g.M.Media old) c.requires.ready)

pub returns-in-Ok-clause-undone : goal.returns-in-Ok-clause-undone
returns-in-Ok-clause-undone g c = subst (λ (v : Allocation). OnErr c.write_move.result (WasReleased c.args.pools.now c.write_move.new.pools v)) c.in-Ok.ensures.taken c.write_move.ensures.undone

pub returns-in-Err-clause-ends : goal.returns-in-Err-clause-ends
returns-in-Err-clause-ends g c =
    let m = g.M.Media in
    let old = c.args.journal.now in
    let f = c.args.moved.file in
    let rests : Rests m old.geometry old.media = record { sizes = c.left_now.ensures.sizes c.requires.going; journal = c.left_now.ensures.journal c.requires.going; rest = c.requires.rests } in
    let ready = c.requires.pools in
    let before : IsSettled old.geometry (m.seen old.media) (m.left old.media (m.moment old.media)) ready.before = record { opens = c.requires.opens; rests = c.requires.rests; ranges = ready.ranges; free = ready.free } in
    let undone : WasReleased c.args.pools.now c.release.new.self c.args.taken = subst (λ (v : Allocation). WasReleased c.args.pools.now c.release.new.self v) c.in-Err.ensures.refused c.release.ensures in
    let settled = settled_undone old.geometry (m.seen old.media) (m.left old.media (m.moment old.media)) ready.before c.args.pools.now c.release.new.self c.args.taken ready.took undone before in
    ends_refused m g.met.M.Media.sized c.args.moved.inode f.run.first f.run.count c.args.moved.to old old c.release.new.self Memory memory_fault rests (still_self m g.met.M.Media.sized old) refl c.requires.going refl settled

pub returns-in-Err-clause-undone : goal.returns-in-Err-clause-undone
returns-in-Err-clause-undone g c = subst (λ (v : Allocation). WasReleased c.args.pools.now c.release.new.self v) c.in-Err.ensures.refused c.release.ensures
