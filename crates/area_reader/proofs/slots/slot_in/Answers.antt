use Rattle.std.proofs.Common.{arith}
use Rattle.batch_journal.specs.layout.declared.error.What.TheVariants as what
use Rattle.batch_journal.specs.layout.Places.{slot_block}
use Rattle.batch_journal.specs.layout.Slot.{slot_of}
use Rattle.area_reader.proofs.Shown.{answered}
use Rattle.area_reader.proofs.slots.slot_in.Goals as goal

pub returns-in-Ok-clause-fits : goal.returns-in-Ok-clause-fits
returns-in-Ok-clause-fits c =
    let g = c.args.geometry.now in
    let bytes = c.args.bytes.now in
    (c.slot_is_spelled.ensures g bytes c.in-Ok.slot (λ i. omega (arith, c.type_inv.bytes i)) (answered what.Slot (slot_block c.args.inode) (slot_of g bytes) c.in-Ok.slot c.in-Ok.ensures)).0
