use Rattle.std.proofs.Common.{◌≡◌, ◌+◌, drop}
use Rattle.std.specs.List.{sum_by}
use Rattle.area_reader.specs.Units.{slot_units}
use Rattle.change_plan.specs.area_commit.declared.slots.ChangedSlot.{ChangedSlot}
use Rattle.shared_area.proofs.inode_cost.units_of_slots.Given as goal

abbrev pub invariant-each : goal.invariant-each
invariant-each l = l.units + sum_by (λ (x : ChangedSlot). slot_units x.slot) (drop l.at l.slots) ≡ sum_by (λ (x : ChangedSlot). slot_units x.slot) l.slots
