use Rattle.std.proofs.Common.{◌<◌, ◌∙◌, List, sym, ap, subst, Some}
use Rattle.std.specs.FinMap as fin
use Rattle.std.specs.List.{sum_by}
use Rattle.std.proofs.lemmas.Result.{err_from_is_err_and}
use Rattle.area_reader.specs.graph_change.View.{changes_of}
use Rattle.area_reader.specs.Store.{Store, disk}
use Rattle.area_reader.specs.Units.{slot_units}
use Rattle.change_plan.specs.area_commit.declared.slots.ChangedSlot.{ChangedSlot}
use Rattle.shared_area.proofs.Charged.{slots_units, slots_small}
use Rattle.shared_area.proofs.Ending.{ends_ok, ends_err}
use Rattle.shared_area.proofs.MadeStore.{planned_fits, planned_long}
use Rattle.shared_area.proofs.plan_write.write_counted.Goals as goal

pub units_of_slots-units-requires : goal.units_of_slots-units-requires
units_of_slots-units-requires g c =
    let old = c.args.journal.now in
    let s : Store = disk g.M.Media old in
    let cs = changes_of c.args.change.now in
    subst (λ (xs : List ChangedSlot). sum_by (λ (x : ChangedSlot). slot_units x.slot) xs < 18446744073709551616) (sym c.deref.ensures.value)
    (slots_small old.geometry cs c.requires.can.bounded c.args.plan.slots.items (planned_long old.geometry s cs c.args.marks.digests c.args.plan c.args.plan.taken (Some c.args.marks) c.requires.whole) (planned_fits old.geometry s cs c.args.marks.digests c.args.plan c.args.plan.taken (Some c.args.marks) c.requires.whole))

pub returns-clause-ends : goal.returns-clause-ends
returns-clause-ends g c =
    let m = g.M.Media in
    ends_ok m g.met.M.Media.sized (changes_of c.args.change.now) c.args.marks c.args.journal.now c.reserve_blocks.new.journal c.reserve_blocks.new.pools tt c.units_of_slots-units.result c.in_ok-reserve_blocks.ensures.ends

pub returns-clause-units : goal.returns-clause-units
returns-clause-units g c =
    let m = g.M.Media in
    c.units_of_slots-units.ensures
    ∙ ap (λ (xs : List ChangedSlot). sum_by (λ (x : ChangedSlot). slot_units x.slot) xs) c.deref.ensures.value
    ∙ slots_units c.args.journal.now.geometry (disk m c.reserve_blocks.new.journal) (fin.keys (changes_of c.args.change.now)) c.args.plan.slots.items c.in_ok-reserve_blocks.ensures.slots

pub returns-in_err-reserve_blocks-clause-ends : goal.returns-in_err-reserve_blocks-clause-ends
returns-in_err-reserve_blocks-clause-ends g c =
    let m = g.M.Media in
    let p = err_from_is_err_and c.from_residual.result c.from_residual.ensures.1 in
    rw (p.1, p.2) (ends_err m g.met.M.Media.sized (changes_of c.args.change.now) c.args.marks c.args.journal.now c.reserve_blocks.new.journal c.reserve_blocks.new.pools c.in_err-reserve_blocks.field-0.0 c.in_err-reserve_blocks.ensures.ends)
