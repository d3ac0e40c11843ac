use Rattle.std.proofs.Common.{refl, length}
use Rattle.std.proofs.lemmas.Result.{err_from_is_err_and}
use Rattle.inode_plan.specs.area_reader.Store.{disk, root_of}
use Rattle.inode_plan.specs.area_commit.Value.{data_pool}
use Rattle.inode_plan.proofs.area_commit_lemmas.Course.{Rests}
use Rattle.inode_plan.proofs.area_commit_lemmas.Returned.{same_free}
use Rattle.inode_plan.specs.area_reader.declared.error.AreaError.TheVariants.{NoBlock}
use Rattle.relocation.specs.MovedFile.{spare_count}
use Rattle.relocation.proofs.Ending.{block_fault, block_memory, on_ok, err_with, forced_only, forced_change, still_self, ends_refused}
use Rattle.relocation.proofs.Pooled.{room_still, enough, too_few, not_fault, settled_same}
use Rattle.relocation.proofs.run_move.allocate_run.Goals as goal

pub carry-requires-clause-ready : goal.carry-requires-clause-ready
carry-requires-clause-ready g c =
    let old = c.args.journal.now in
    record { run = c.requires.run; took = c.in_ok-taken.ensures.taken old.geometry (disk g.M.Media old) c.requires.settled.ranges c.requires.settled.free }

pub carry-requires-clause-pools : goal.carry-requires-clause-pools
carry-requires-clause-pools g c = record {
  before = c.args.pools.now;
  order = c.take_blocks.ensures.order;
  ranges = c.requires.settled.ranges;
  free = c.requires.settled.free;
  took = c.in_ok-taken.ensures.fronts;
  undo = c.in_ok-taken.ensures.undone;
  room = room_still c.args.pools.now c.take_blocks.new.pools c.args.moved.lost c.in_ok-taken.ensures.room c.requires.room;
}

pub returns-clause-same : goal.returns-clause-same
returns-clause-same g c = err_with c.carry.result (same_free c.args.pools.now c.take_blocks.new.pools c.carry.new.pools c.in_ok-taken.taken c.in_ok-taken.ensures.fronts) c.carry.ensures.undone

pub returns-clause-enough : goal.returns-clause-enough
returns-clause-enough g c =
    let old = c.args.pools.now in
    on_ok c.carry.result (enough c.in_ok-taken.taken (spare_count (root_of c.args.moved.file.slot c.args.moved.to)) (length old.nodes.free) c.args.moved.file.run.count (length (data_pool old c.args.moved.to).free) c.in_ok-taken.ensures.few)

pub returns-clause-few : goal.returns-clause-few
returns-clause-few g c is = absurd (forced_only c.carry.result NoBlock c.carry.ensures.only block_fault block_memory is)

pub returns-clause-only : goal.returns-clause-only
returns-clause-only g c = forced_change c.carry.result c.carry.ensures.only

pub returns-in_err-taken-clause-ends : goal.returns-in_err-taken-clause-ends
returns-in_err-taken-clause-ends g c =
    let m = g.M.Media in
    let old = c.args.journal.now in
    let f = c.args.moved.file in
    let pools = c.take_blocks.new.pools in
    let rests : Rests m old.geometry old.media = record { sizes = c.left_now.ensures.sizes c.requires.going; journal = c.left_now.ensures.journal c.requires.going; rest = c.requires.settled.rests } in
    let settled = settled_same old.geometry (m.seen old.media) (m.left old.media (m.moment old.media)) c.args.pools.now pools c.in_err-taken.ensures.err c.requires.settled in
    let p = err_from_is_err_and c.from_residual.result c.from_residual.ensures.1 in
    rw p.1 (ends_refused m g.met.M.Media.sized c.args.moved.inode f.run.first f.run.count c.args.moved.to old old pools p.0 (not_fault c.in_err-taken.field-0.0 p.0 p.2).0 rests
    (still_self m g.met.M.Media.sized old) refl c.requires.going refl settled)

pub returns-in_err-taken-clause-few : goal.returns-in_err-taken-clause-few
returns-in_err-taken-clause-few g c =
    let old = c.args.journal.now in
    let pools = c.args.pools.now in
    let settled = c.requires.settled in
    let some = c.nodes_never_run_out.ensures.spare old.geometry (disk g.M.Media old) pools settled.opens.spelled settled.opens.units settled.free in
    let p = err_from_is_err_and c.from_residual.result c.from_residual.ensures.1 in
    rw p.1 (too_few c.in_err-taken.field-0.0 p.0 (root_of c.args.moved.file.slot c.args.moved.to) (length pools.nodes.free) c.args.moved.file.run.count (length (data_pool pools c.args.moved.to).free) p.2 c.in_err-taken.ensures.few some)

pub returns-in_err-taken-clause-only : goal.returns-in_err-taken-clause-only
returns-in_err-taken-clause-only g c =
    let p = err_from_is_err_and c.from_residual.result c.from_residual.ensures.1 in
    rw p.1 (not_fault c.in_err-taken.field-0.0 p.0 p.2).1
