use Rattle.std.proofs.Common.{◌≤◌, length, inr, refl}
use Rattle.tier_device.specs.declared.media.Tier.{Tier}
use Rattle.tier_device.specs.declared.media.Tier.TheVariants.{Fast, Block, Slow}
use Rattle.area_reader.specs.Store.{disk}
use Rattle.change_plan.specs.area_commit.Value.{PoolsView, data_pool}
use Rattle.area_reader.specs.graph_change.View.{changes_of}
use Rattle.change_plan.specs.area_commit.declared.plan.FreedBlocks.{FreedBlocks}
use Rattle.change_plan.specs.area_commit.Plan.{lost_in}
use Rattle.change_plan.specs.area_commit.StableState.{IsSettled}
use Rattle.change_plan.proofs.area_commit_lemmas.Course.{Rests}
use Rattle.change_plan.proofs.area_commit_lemmas.Returned.{same_free}
use Rattle.area_reader.specs.declared.error.AreaError.TheVariants.{Memory}
use Rattle.shared_area.proofs.Ending.{memory_fault, still_self, ends_refused}
use Rattle.shared_area.proofs.Pooled.{settled_same, were_still, undo_still, has_still}
use Rattle.shared_area.proofs.plan_write.reserve_blocks.Goals as goal

-- room for the runs of each tier
room_for : (pools : PoolsView) (lost : FreedBlocks) → length lost.fast.items ≤ pools.fast.room → length lost.block.items ≤ pools.block.room → length lost.slow.items ≤ pools.slow.room → (t : Tier) → length (lost_in lost t) ≤ (data_pool pools t).room
room_for pools lost fast block slow Fast = fast
room_for pools lost fast block slow Block = block
room_for pools lost fast block slow Slow = slow

pub write_change-requires-clause-took : goal.write_change-requires-clause-took
write_change-requires-clause-took g c =
    let old = c.args.journal.now in
    has_still old.geometry (disk g.M.Media old) c.args.pools.now c.reserve.new.self c.args.plan.taken c.reserve.ensures.same c.reserve.ensures.kept c.requires.took

pub release-requires : goal.release-requires
release-requires g c = undo_still c.args.pools.now c.reserve.new.self c.args.plan.taken c.reserve.ensures.same c.reserve.ensures.kept c.requires.took.undo

pub returns-in-Ok-clause-same : goal.returns-in-Ok-clause-same
returns-in-Ok-clause-same g c = λ (before : PoolsView) order took. c.write_change.ensures.same before order (were_still before c.args.pools.now c.reserve.new.self c.args.plan.taken c.reserve.ensures.same c.reserve.ensures.kept took)

pub returns-in-Err-clause-ends : goal.returns-in-Err-clause-ends
returns-in-Err-clause-ends g c =
    let m = g.M.Media in
    let old = c.args.journal.now in
    let rests : Rests m old.geometry old.media = record { sizes = c.left_now.ensures.sizes c.requires.going; journal = c.left_now.ensures.journal c.requires.going; rest = c.requires.rests } in
    let took = c.requires.took in
    let before : IsSettled old.geometry (m.seen old.media) (m.left old.media (m.moment old.media)) took.before = record { opens = c.requires.opens; rests = c.requires.rests; ranges = took.ranges; free = took.free } in
    let still = were_still took.before c.args.pools.now c.reserve.new.self c.args.plan.taken c.reserve.ensures.same c.reserve.ensures.kept took.took in
    let settled = settled_same old.geometry (m.seen old.media) (m.left old.media (m.moment old.media)) took.before c.release.new.self (same_free took.before c.reserve.new.self c.release.new.self c.args.plan.taken still c.release.ensures) before in
    ends_refused m g.met.M.Media.sized (changes_of c.args.change.now) c.args.marks old old c.release.new.self Memory tt memory_fault rests (still_self m g.met.M.Media.sized old) refl c.requires.going refl settled

pub returns-in-Err-clause-same : goal.returns-in-Err-clause-same
returns-in-Err-clause-same g c = λ (before : PoolsView) order took.
    same_free before c.reserve.new.self c.release.new.self c.args.plan.taken (were_still before c.args.pools.now c.reserve.new.self c.args.plan.taken c.reserve.ensures.same c.reserve.ensures.kept took) c.release.ensures

pub returns-in-Err-clause-only : goal.returns-in-Err-clause-only
returns-in-Err-clause-only g c = inr refl
