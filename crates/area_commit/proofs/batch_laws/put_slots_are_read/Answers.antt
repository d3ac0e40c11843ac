use Rattle.std.proofs.Common.{sym}
use Rattle.area_reader.specs.layout.Slot.{slot_spelling}
use Rattle.area_reader.proofs.Shown.{slot_is}
use Rattle.std.specs.Prelude.{Some}
use Rattle.area_commit.proofs.SlotBytes.{within}
use Rattle.area_commit.proofs.batch_laws.put_slots_are_read.Goals as goal

pub returns-clause-slots : goal.returns-clause-slots
returns-clause-slots c g old new slots m nodes x allowed put rises has fits =
    let range = within 1 1024 slots x rises has in
    slot_is g new x.inode (slot_spelling x.slot) (Some x.slot) range.0 range.1 (sym (put.slots_put x has)) (c.slot_is_read.ensures g x.slot allowed fits)
