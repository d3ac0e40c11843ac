use Rattle.std.proofs.Common.{◌≤◌, ◌+◌, Some, length, sym, ap, subst}
use Rattle.std.specs.Prelude.{min, Err}
use Rattle.std.proofs.lemmas.Result.{err_from_is_err_and}
use Rattle.area_reader.specs.layout.Places.{Sizes, IsAllowed}
use Rattle.area_reader.specs.graph_change.View.{changes_of}
use Rattle.area_reader.specs.Store.{Store, disk}
use Rattle.change_plan.specs.area_commit.Value.{PoolsView}
use Rattle.change_plan.specs.area_commit.Allocations.{WasReleased}
use Rattle.change_plan.specs.area_commit.Batches.{marks_images}
use Rattle.change_plan.specs.area_commit.DataWrite.{TakenInTurn, calls_for}
use Rattle.change_plan.specs.area_commit.declared.plan.Rewrite.{Rewrite}
use Rattle.change_plan.specs.area_commit.Plan.{IsPlan}
use Rattle.change_plan.specs.area_commit.PlanOutcome.{IsCarriedOut}
use Rattle.change_plan.specs.area_commit.Room.{AreReadyFor}
use Rattle.change_plan.specs.area_commit.StableState.{IsSettled}
use Rattle.change_plan.proofs.area_commit_lemmas.Course.{Rests}
use Rattle.change_plan.proofs.area_commit_lemmas.Returned.{same_free}
use Rattle.shared_area.specs.ChangeApply.{IsAppliedStore}
use Rattle.shared_area.proofs.Calls.{few_calls}
use Rattle.shared_area.proofs.Ending.{ends_done, ends_undone}
use Rattle.shared_area.proofs.Pooled.{settled_same}
use Rattle.shared_area.proofs.plan_write.write_change.Goals as goal

pub carry_out-requires-clause-plan : goal.carry_out-requires-clause-plan
carry_out-requires-clause-plan g c =
    let old = c.args.journal.now in
    let s : Store = disk g.M.Media old in
    subst (λ (r : Rewrite). IsPlan old.geometry s r) (sym c.whole_plan.ensures)
    (c.whole_change_can_be_carried_out.ensures.planned old.geometry s (changes_of c.args.change.now) c.args.marks.digests c.args.plan c.args.plan.taken (Some c.args.marks) c.requires.whole)

pub carry_out-requires-clause-pools : goal.carry_out-requires-clause-pools
carry_out-requires-clause-pools g c =
    let old = c.args.journal.now in
    let s : Store = disk g.M.Media old in
    subst (λ (r : Rewrite). AreReadyFor old.geometry s c.args.pools.now r) (sym c.whole_plan.ensures)
    (c.whole_change_can_be_carried_out.ensures.ready old.geometry s c.args.pools.now c.args.plan c.args.plan.taken (Some c.args.marks) c.requires.took c.requires.nodes_room c.requires.room)

pub returns-clause-ends : goal.returns-clause-ends
returns-clause-ends g c =
    let m = g.M.Media in
    let old = c.args.journal.now in
    let new = c.carry_out.new.journal in
    let pools = c.carry_out.new.pools in
    let s : Store = disk m old in
    let cs = changes_of c.args.change.now in
    let v = c.args.marks in
    let allowed : IsAllowed old.geometry = subst IsAllowed c.geometry.ensures c.units-units.ensures.allowed in
    let done : (x : Store) → IsCarriedOut old.geometry s c.whole_plan.result x → IsAppliedStore old.geometry s cs v x =
    λ x out. c.carried_out_change_is_made.ensures old.geometry s cs c.args.plan c.args.plan.taken v x allowed c.requires.opens.spelled c.requires.can c.requires.whole c.requires.first (subst (λ (r : Rewrite). IsCarriedOut old.geometry s r x) c.whole_plan.ensures out) in
    let got = c.whole_change_lies_in_its_places.ensures.got old.geometry s cs v.digests c.args.plan c.args.plan.taken (Some v) c.requires.whole c.requires.first in
    let few = few_calls old.geometry s cs v c.args.plan c.args.plan.taken c.args.pools.now (m.moment old.media) (m.moment new.media) (m.left old.media) (m.left new.media) c.requires.whole c.requires.took got (subst (λ (r : Rewrite). m.moment new.media ≤ m.moment old.media + calls_for r.taken + min (length r.slots.items) 32 + length (marks_images r.marks) + length r.nodes + 7) c.whole_plan.ensures c.carry_out.ensures.at_most)
    (subst (λ (r : Rewrite). TakenInTurn r.taken (m.moment old.media) (m.moment new.media) (m.left old.media) (m.left new.media)) c.whole_plan.ensures c.carry_out.ensures.turn) in
    let settled : IsSettled old.geometry (m.seen new.media) (m.left new.media (m.moment new.media)) pools = record {
      opens = (done (disk m new) c.in_ok-carry_out.ensures.done).opens;
      rests = c.in_ok-carry_out.ensures.rests;
      ranges = c.in_ok-carry_out.ensures.ranges;
      free = c.in_ok-carry_out.ensures.free;
    } in
    ends_done m g.met.M.Media.sized cs v old new c.whole_plan.result done c.carry_out.ensures.any_moment few tt pools c.in_ok-carry_out.ensures.done
    (subst (λ (h : Sizes). IsSettled h (m.seen new.media) (m.left new.media (m.moment new.media)) pools) (sym c.carry_out.ensures.geometry) settled) (c.in_ok-carry_out.ensures.going, c.in_ok-carry_out.ensures.quiet) c.carry_out.ensures.geometry

pub returns-clause-slots : goal.returns-clause-slots
returns-clause-slots g c =
    let m = g.M.Media in
    let old = c.args.journal.now in
    let new : Store = disk m c.carry_out.new.journal in
    let s : Store = disk m old in
    let allowed : IsAllowed old.geometry = subst IsAllowed c.geometry.ensures c.units-units.ensures.allowed in
    c.carried_out_change_has_its_slots.ensures old.geometry s (changes_of c.args.change.now) c.args.marks.digests c.args.plan c.args.plan.taken (Some c.args.marks) new allowed c.requires.whole (subst (λ (r : Rewrite). IsCarriedOut old.geometry s r new) c.whole_plan.ensures c.in_ok-carry_out.ensures.done)

pub returns-in_err-carry_out-clause-ends : goal.returns-in_err-carry_out-clause-ends
returns-in_err-carry_out-clause-ends g c =
    let m = g.M.Media in
    let old = c.args.journal.now in
    let new = c.carry_out.new.journal in
    let pools = c.carry_out.new.pools in
    let s : Store = disk m old in
    let cs = changes_of c.args.change.now in
    let v = c.args.marks in
    let allowed : IsAllowed old.geometry = subst IsAllowed c.geometry.ensures c.units-units.ensures.allowed in
    let done : (x : Store) → IsCarriedOut old.geometry s c.whole_plan.result x → IsAppliedStore old.geometry s cs v x =
    λ x out. c.carried_out_change_is_made.ensures old.geometry s cs c.args.plan c.args.plan.taken v x allowed c.requires.opens.spelled c.requires.can c.requires.whole c.requires.first (subst (λ (r : Rewrite). IsCarriedOut old.geometry s r x) c.whole_plan.ensures out) in
    let got = c.whole_change_lies_in_its_places.ensures.got old.geometry s cs v.digests c.args.plan c.args.plan.taken (Some v) c.requires.whole c.requires.first in
    let few = few_calls old.geometry s cs v c.args.plan c.args.plan.taken c.args.pools.now (m.moment old.media) (m.moment new.media) (m.left old.media) (m.left new.media) c.requires.whole c.requires.took got (subst (λ (r : Rewrite). m.moment new.media ≤ m.moment old.media + calls_for r.taken + min (length r.slots.items) 32 + length (marks_images r.marks) + length r.nodes + 7) c.whole_plan.ensures c.carry_out.ensures.at_most)
    (subst (λ (r : Rewrite). TakenInTurn r.taken (m.moment old.media) (m.moment new.media) (m.left old.media) (m.left new.media)) c.whole_plan.ensures c.carry_out.ensures.turn) in
    let rests : Rests m old.geometry old.media = record { sizes = c.left_now.ensures.sizes c.requires.going; journal = c.left_now.ensures.journal c.requires.going; rest = c.requires.rests } in
    let took = c.requires.took in
    let before : IsSettled old.geometry (m.seen old.media) (m.left old.media (m.moment old.media)) took.before = record { opens = c.requires.opens; rests = c.requires.rests; ranges = took.ranges; free = took.free } in
    let undone : WasReleased c.args.pools.now pools c.args.plan.taken = subst (λ (r : Rewrite). WasReleased c.args.pools.now pools r.taken) c.whole_plan.ensures c.in_err-carry_out.ensures.undone in
    let settled = settled_same old.geometry (m.seen old.media) (m.left old.media (m.moment old.media)) took.before pools (same_free took.before c.args.pools.now pools c.args.plan.taken took.took undone) before in
    let out = c.in_err-carry_out.ensures in
    let error = c.in_err-carry_out.field-0.0 in
    let p = err_from_is_err_and c.from_residual.result c.from_residual.ensures.1 in
    rw (p.1, p.2) (ends_undone m g.met.M.Media.sized cs v old new c.whole_plan.result done c.carry_out.ensures.any_moment few pools error out.only
    (λ is. out.fault (ap Err is)) (λ is. out.memory (ap Err is)) c.carry_out.ensures.geometry c.carry_out.ensures.faults c.carry_out.ensures.one_fault c.requires.going rests settled)

pub returns-in_err-carry_out-clause-same : goal.returns-in_err-carry_out-clause-same
returns-in_err-carry_out-clause-same g c = λ (before : PoolsView) order took.
    let undone : WasReleased c.args.pools.now c.carry_out.new.pools c.args.plan.taken = subst (λ (r : Rewrite). WasReleased c.args.pools.now c.carry_out.new.pools r.taken) c.whole_plan.ensures c.in_err-carry_out.ensures.undone in
    let p = err_from_is_err_and c.from_residual.result c.from_residual.ensures.1 in
    rw p.1 (same_free before c.args.pools.now c.carry_out.new.pools c.args.plan.taken took undone)

pub returns-in_err-carry_out-clause-only : goal.returns-in_err-carry_out-clause-only
returns-in_err-carry_out-clause-only g c =
    let p = err_from_is_err_and c.from_residual.result c.from_residual.ensures.1 in
    rw (p.1, p.2) c.in_err-carry_out.ensures.only
