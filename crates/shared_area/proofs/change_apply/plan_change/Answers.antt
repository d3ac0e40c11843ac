use Rattle.std.proofs.Common.{◌≡◌, ℕ, List, Some, sym, subst}
use Rattle.std.specs.Prelude.{IfOk}
use Rattle.std.specs.FinMap as fin
use Rattle.tier_device.specs.declared.media.Tier.{Tier}
use Rattle.area_reader.specs.layout.Places.{Sizes, IsAllowed}
use Rattle.area_reader.specs.graph_change.View.{changes_of}
use Rattle.area_reader.proofs.Looked.{carried}
use Rattle.change_plan.specs.area_commit.Value.{PoolsView}
use Rattle.change_plan.proofs.area_commit_lemmas.Course.{Rests}
use Rattle.change_plan.proofs.area_commit_lemmas.Returned.{same_free}
use Rattle.area_reader.specs.Store.{Store, disk}
use Rattle.change_plan.specs.PlanAddition.{HasTaken}
use Rattle.change_plan.specs.FileLayout.{AreFirstFree}
use Rattle.change_plan.specs.area_commit.Allocations.{taken_data}
use Rattle.shared_area.specs.ChangeApply.{CanApply}
use Rattle.shared_area.specs.Costs.{units_in}
use Rattle.change_plan.specs.First.{IsWhole}
use Rattle.shared_area.proofs.Ending.{settled_still, ends_told, ends_on}
use Rattle.shared_area.proofs.Pooled.{settled_same}
use Rattle.shared_area.proofs.change_apply.plan_change.Goals as goal

pub plan_changes-requires-clause-allowed : goal.plan_changes-requires-clause-allowed
plan_changes-requires-clause-allowed g c = subst IsAllowed c.geometry.ensures c.units-units.ensures.allowed

pub plan_changes-requires-clause-spelled : goal.plan_changes-requires-clause-spelled
plan_changes-requires-clause-spelled g c = c.requires.taken.3.opens.spelled

pub plan_changes-requires-clause-took : goal.plan_changes-requires-clause-took
plan_changes-requires-clause-took g c = record {
  before = c.requires.taken.0;
  order = c.requires.taken.1;
  ranges = c.requires.taken.3.ranges;
  free = c.requires.taken.3.free;
  took = c.requires.taken.2;
  undo = c.requires.undo;
}

pub write_counted-requires-clause-going : goal.write_counted-requires-clause-going
write_counted-requires-clause-going g c = c.in-Ok.ensures.looks.going.1

pub write_counted-requires-clause-opens : goal.write_counted-requires-clause-opens
write_counted-requires-clause-opens g c =
    let m = g.M.Media in
    let looks = c.in-Ok.ensures.looks in
    (settled_still m g.met.M.Media.sized c.args.journal.now c.plan_changes.new.journal c.requires.taken.0 looks.unmoved looks.geometry c.requires.taken.3).opens

pub write_counted-requires-clause-rests : goal.write_counted-requires-clause-rests
write_counted-requires-clause-rests g c =
    let m = g.M.Media in
    let looks = c.in-Ok.ensures.looks in
    (settled_still m g.met.M.Media.sized c.args.journal.now c.plan_changes.new.journal c.requires.taken.0 looks.unmoved looks.geometry c.requires.taken.3).rests

pub write_counted-requires-clause-can : goal.write_counted-requires-clause-can
write_counted-requires-clause-can g c =
    let m = g.M.Media in
    carried m (λ h s. CanApply h s (changes_of c.args.read.now.change.now) c.args.marks) c.args.journal.now c.plan_changes.new.journal _ c.in-Ok.ensures.looks c.requires.can

pub write_counted-requires-clause-whole : goal.write_counted-requires-clause-whole
write_counted-requires-clause-whole g c =
    let m = g.M.Media in
    carried m (λ h s. IsWhole h s (changes_of c.args.read.now.change.now) c.args.marks.digests c.plan_changes.new.plan c.plan_changes.new.plan.taken (Some c.args.marks)) c.args.journal.now c.plan_changes.new.journal _ c.in-Ok.ensures.looks
    (c.in-Ok.ensures.whole (Some c.args.marks) c.requires.can.fits)

pub write_counted-requires-clause-took : goal.write_counted-requires-clause-took
write_counted-requires-clause-took g c =
    let m = g.M.Media in
    carried m (λ h s. HasTaken h s c.plan_changes.new.pools c.plan_changes.new.plan.taken) c.args.journal.now c.plan_changes.new.journal _ c.in-Ok.ensures.looks c.in-Ok.ensures.kept

pub write_counted-requires-clause-first : goal.write_counted-requires-clause-first
write_counted-requires-clause-first g c =
    let m = g.M.Media in
    let same = c.plan_changes.ensures.took.same in
    carried m (λ h s. AreFirstFree h s (taken_data c.plan_changes.new.plan.taken)) c.args.journal.now c.plan_changes.new.journal _ c.in-Ok.ensures.looks
    (subst (λ (ps : List (Tier × ℕ)). AreFirstFree c.args.journal.now.geometry (disk m c.args.journal.now) ps) (sym same) c.requires.first)

pub release-requires : goal.release-requires
release-requires g c = c.plan_changes.ensures.took.undo

pub returns-in-Ok-clause-ends : goal.returns-in-Ok-clause-ends
returns-in-Ok-clause-ends g c =
    let m = g.M.Media in
    let looks = c.in-Ok.ensures.looks in
    ends_on m g.met.M.Media.sized (changes_of c.args.read.now.change.now) c.args.marks c.args.journal.now c.plan_changes.new.journal c.write_counted.new.journal c.write_counted.new.pools c.write_counted.result looks.unmoved looks.geometry looks.quiet c.write_counted.ensures.ends

pub returns-in-Ok-clause-units : goal.returns-in-Ok-clause-units
returns-in-Ok-clause-units g c =
    let m = g.M.Media in
    let new : Store = disk m c.write_counted.new.journal in
    subst (λ (h : Sizes). IfOk c.write_counted.result (λ units. units ≡ units_in h new (fin.keys (changes_of c.args.read.now.change.now)))) c.in-Ok.ensures.looks.geometry c.write_counted.ensures.units

pub returns-in-Ok-clause-same : goal.returns-in-Ok-clause-same
returns-in-Ok-clause-same g c = λ (before : PoolsView) order took. c.write_counted.ensures.same before order (c.plan_changes.ensures.took.took before order took)

pub returns-in-Err-clause-ends : goal.returns-in-Err-clause-ends
returns-in-Err-clause-ends g c =
    let m = g.M.Media in
    let old = c.args.journal.now in
    let r = c.requires.taken in
    let rests : Rests m old.geometry old.media = record { sizes = c.left_now.ensures.sizes c.requires.going; journal = c.left_now.ensures.journal c.requires.going; rest = r.3.rests } in
    let settled = settled_same old.geometry (m.seen old.media) (m.left old.media (m.moment old.media)) r.0 c.release.new.self (same_free r.0 c.plan_changes.new.pools c.release.new.self c.plan_changes.new.plan.taken (c.plan_changes.ensures.took.took r.0 r.1 r.2) c.release.ensures) r.3 in
    ends_told m g.met.M.Media.sized (changes_of c.args.read.now.change.now) c.args.marks old c.plan_changes.new.journal c.release.new.self c.in-Err.error c.in-Err.ensures.only c.in-Err.ensures.looks c.requires.going rests settled

pub returns-in-Err-clause-same : goal.returns-in-Err-clause-same
returns-in-Err-clause-same g c = λ (before : PoolsView) order took. same_free before c.plan_changes.new.pools c.release.new.self c.plan_changes.new.plan.taken (c.plan_changes.ensures.took.took before order took) c.release.ensures

pub returns-in-Err-clause-only : goal.returns-in-Err-clause-only
returns-in-Err-clause-only g c = c.in-Err.ensures.only

pub plan_changes-requires-clause-bounded : goal.plan_changes-requires-clause-bounded
plan_changes-requires-clause-bounded g c = c.requires.can.bounded

pub plan_changes-requires-clause-tidy : goal.plan_changes-requires-clause-tidy
plan_changes-requires-clause-tidy g c = c.requires.can.tidy

pub plan_changes-requires-clause-entries : goal.plan_changes-requires-clause-entries
plan_changes-requires-clause-entries g c = c.requires.can.entries

pub plan_changes-requires-clause-images : goal.plan_changes-requires-clause-images
plan_changes-requires-clause-images g c = c.requires.can.images
