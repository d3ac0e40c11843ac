use Rattle.std.proofs.Common.{◌<◌, ◌∙◌, List, sym, ap, subst}
use Rattle.std.specs.Prelude.{Err}
use Rattle.std.specs.FinMap as fin
use Rattle.std.specs.List.{sum_by}
use Rattle.std.proofs.lemmas.Result.{err_from_is_err_and}
use Rattle.area_reader.specs.graph_change.View.{changes_of}
use Rattle.area_reader.specs.layout.Places.{Sizes}
use Rattle.area_reader.specs.Store.{Store, disk}
use Rattle.area_reader.specs.Units.{slot_units}
use Rattle.area_reader.proofs.Looked.{carried, carried_back}
use Rattle.change_plan.specs.area_commit.declared.slots.ChangedSlot.{ChangedSlot}
use Rattle.change_plan.proofs.area_commit_lemmas.Course.{Rests}
use Rattle.change_plan.specs.BlockDemand.{WantsBlocks}
use Rattle.change_plan.specs.ReadSlots.{HaveSlots}
use Rattle.change_plan.proofs.Slotted.{slots_long}
use Rattle.shared_area.specs.ChangeApply.{CanApply}
use Rattle.shared_area.specs.Costs.{units_in}
use Rattle.shared_area.proofs.Charged.{slots_units, slots_small, have_fits}
use Rattle.area_reader.specs.declared.error.AreaError.TheVariants.{NoBlock}
use Rattle.shared_area.proofs.Ending.{err_same, forced_block, settled_still, ends_told, ends_on, ends_ok, ends_err}
use Rattle.shared_area.proofs.Pooled.{same_self}
use Rattle.shared_area.proofs.change_apply.apply_read.Goals as goal

pub read_slots-requires-clause-spelled : goal.read_slots-requires-clause-spelled
read_slots-requires-clause-spelled g c = c.requires.settled.opens.spelled

pub read_slots-requires-clause-bounded : goal.read_slots-requires-clause-bounded
read_slots-requires-clause-bounded g c = c.requires.can.bounded

pub units_of_slots-before-requires : goal.units_of_slots-before-requires
units_of_slots-before-requires g c =
    let old = c.args.journal.now in
    let s : Store = disk g.M.Media old in
    let cs = changes_of c.args.change.now in
    let have = c.in_ok-slots.ensures.slots in
    subst (λ (xs : List ChangedSlot). sum_by (λ (x : ChangedSlot). slot_units x.slot) xs < 18446744073709551616) (sym c.deref.ensures.value)
    (slots_small old.geometry cs c.requires.can.bounded c.in_ok-slots.slots.items (slots_long old.geometry s (fin.keys cs) c.in_ok-slots.slots.items have) (have_fits old.geometry s (fin.keys cs) c.in_ok-slots.slots.items have))

pub apply_counted-requires-clause-going : goal.apply_counted-requires-clause-going
apply_counted-requires-clause-going g c = c.in_ok-slots.ensures.looks.going.1

pub apply_counted-requires-clause-settled : goal.apply_counted-requires-clause-settled
apply_counted-requires-clause-settled g c =
    let m = g.M.Media in
    let looks = c.in_ok-slots.ensures.looks in
    settled_still m g.met.M.Media.sized c.args.journal.now c.read_slots.new.journal c.args.pools.now looks.unmoved looks.geometry c.requires.settled

pub apply_counted-requires-clause-can : goal.apply_counted-requires-clause-can
apply_counted-requires-clause-can g c =
    let m = g.M.Media in
    carried m (λ h s. CanApply h s (changes_of c.args.change.now) c.args.marks) c.args.journal.now c.read_slots.new.journal _ c.in_ok-slots.ensures.looks c.requires.can

pub apply_counted-requires-clause-slots : goal.apply_counted-requires-clause-slots
apply_counted-requires-clause-slots g c =
    let m = g.M.Media in
    subst (λ (xs : List ChangedSlot). HaveSlots c.read_slots.new.journal.geometry (disk m c.read_slots.new.journal) (fin.keys (changes_of c.args.change.now)) xs) (sym c.deref-2.ensures.value)
    (carried m (λ h s. HaveSlots h s (fin.keys (changes_of c.args.change.now)) c.in_ok-slots.slots.items) c.args.journal.now c.read_slots.new.journal _ c.in_ok-slots.ensures.looks c.in_ok-slots.ensures.slots)

pub returns-clause-ends : goal.returns-clause-ends
returns-clause-ends g c =
    let m = g.M.Media in
    let looks = c.in_ok-slots.ensures.looks in
    ends_on m g.met.M.Media.sized (changes_of c.args.change.now) c.args.marks c.args.journal.now c.read_slots.new.journal c.apply_counted.new.journal c.apply_counted.new.pools _ looks.unmoved looks.geometry looks.quiet
    (ends_ok m g.met.M.Media.sized (changes_of c.args.change.now) c.args.marks c.read_slots.new.journal c.apply_counted.new.journal c.apply_counted.new.pools c.in_ok-after.after _ c.in_ok-after.ensures.ends)

pub returns-clause-cost : goal.returns-clause-cost
returns-clause-cost g c =
    let m = g.M.Media in
    let old = c.args.journal.now in
    let s : Store = disk m old in
    let cs = changes_of c.args.change.now in
    let new : Store = disk m c.apply_counted.new.journal in
    record {
      before = c.units_of_slots-before.ensures
          ∙ ap (λ (xs : List ChangedSlot). sum_by (λ (x : ChangedSlot). slot_units x.slot) xs) c.deref.ensures.value
          ∙ slots_units old.geometry s (fin.keys cs) c.in_ok-slots.slots.items c.in_ok-slots.ensures.slots;
      after = c.in_ok-after.ensures.units ∙ ap (λ (h : Sizes). units_in h new (fin.keys cs)) c.in_ok-slots.ensures.looks.geometry;
    }

pub returns-in_err-slots-clause-ends : goal.returns-in_err-slots-clause-ends
returns-in_err-slots-clause-ends g c =
    let m = g.M.Media in
    let old = c.args.journal.now in
    let rests : Rests m old.geometry old.media = record { sizes = c.left_now.ensures.sizes c.requires.going; journal = c.left_now.ensures.journal c.requires.going; rest = c.requires.settled.rests } in
    let p = err_from_is_err_and c.from_residual.result c.from_residual.ensures.1 in
    rw (p.1, p.2) (ends_told m g.met.M.Media.sized (changes_of c.args.change.now) c.args.marks old c.read_slots.new.journal c.args.pools.now c.in_err-slots.field-0.0 c.in_err-slots.ensures.only c.in_err-slots.ensures.looks c.requires.going rests c.requires.settled)

pub returns-in_err-slots-clause-same : goal.returns-in_err-slots-clause-same
returns-in_err-slots-clause-same g c =
    let p = err_from_is_err_and c.from_residual.result c.from_residual.ensures.1 in
    rw p.1 (same_self c.args.pools.now)

pub returns-in_err-slots-clause-few : goal.returns-in_err-slots-clause-few
returns-in_err-slots-clause-few g c =
    let p = err_from_is_err_and c.from_residual.result c.from_residual.ensures.1 in
    rw (p.1, p.2) (λ is. absurd (forced_block (Err c.in_err-slots.field-0.0) c.in_err-slots.ensures.only is))

pub returns-in_err-after-clause-ends : goal.returns-in_err-after-clause-ends
returns-in_err-after-clause-ends g c =
    let m = g.M.Media in
    let looks = c.in_ok-slots.ensures.looks in
    let p = err_from_is_err_and c.from_residual-in_err-after.result c.from_residual-in_err-after.ensures.1 in
    let error = c.in_err-after.field-0.0 in
    rw (p.1, p.2) (ends_on m g.met.M.Media.sized (changes_of c.args.change.now) c.args.marks c.args.journal.now c.read_slots.new.journal c.apply_counted.new.journal c.apply_counted.new.pools (Err error) looks.unmoved looks.geometry looks.quiet
    (ends_err m g.met.M.Media.sized (changes_of c.args.change.now) c.args.marks c.read_slots.new.journal c.apply_counted.new.journal c.apply_counted.new.pools error c.in_err-after.ensures.ends))

pub returns-in_err-after-clause-same : goal.returns-in_err-after-clause-same
returns-in_err-after-clause-same g c =
    let p = err_from_is_err_and c.from_residual-in_err-after.result c.from_residual-in_err-after.ensures.1 in
    rw p.1 c.in_err-after.ensures.same

pub returns-in_err-after-clause-few : goal.returns-in_err-after-clause-few
returns-in_err-after-clause-few g c =
    let m = g.M.Media in
    let p = err_from_is_err_and c.from_residual-in_err-after.result c.from_residual-in_err-after.ensures.1 in
    rw (p.1, p.2) (λ is. (let few = c.in_err-after.ensures.few (ap Err (err_same c.in_err-after.field-0.0 NoBlock is)) in
    (few.0, carried_back m (λ h s. WantsBlocks h s (changes_of c.args.change.now) few.0) c.args.journal.now c.read_slots.new.journal _ c.in_ok-slots.ensures.looks few.1, few.2)))
