-- What the inodes of a medium cost.
use Rattle.std.specs.Prelude.{ℕ}
use Rattle.posix_calls.specs.Units.{file_units, directory_units}
use Rattle.batch_journal.specs.layout.declared.slot.Slot.{Slot}
use Rattle.batch_journal.specs.layout.declared.slot.Slot.TheVariants as slots

-- the units of an inode, as its slot tells its size
abbrev pub slot_units : Slot → ℕ
slot_units slots.Free = 0
slot_units (slots.File names size touch fast block slow) = file_units size
slot_units (slots.Directory names entries touch root) = directory_units entries
