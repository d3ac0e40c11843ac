use Rattle.std.proofs.Common.{arith}
use Rattle.area_reader.specs.layout.declared.slot.Slot.TheVariants as slots
use Rattle.shared_area.proofs.Charged.{slots_next, slots_past}
use Rattle.shared_area.proofs.inode_cost.units_of_slots.Goals as goal

pub overflow_add-units : goal.overflow_add-units
overflow_add-units c =
    let lt = c.each-test.true in
    let more = slots_next c.each.at c.args.slots.now (record { inode = 0; slot = slots.Free }) (omega (arith, lt)) in
    omega (arith, c.each.invariant, more, c.units_of-units.ensures.units, c.requires)

pub each-preserved : goal.each-preserved
each-preserved c =
    let lt = c.each-test.true in
    let more = slots_next c.each.at c.args.slots.now (record { inode = 0; slot = slots.Free }) (omega (arith, lt)) in
    omega (arith, c.each.invariant, more, c.units_of-units.ensures.units)

pub returns : goal.returns
returns c =
    let past = c.each-test.false in
    let none = slots_past c.each.at c.args.slots.now (omega (arith, past)) in
    omega (arith, c.each.invariant, none)
