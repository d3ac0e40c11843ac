use Rattle.layout.proofs.SlotLaws.{slot_of_again}
use Rattle.layout.proofs.laws.slot_is_read.Goals as goal

pub returns : goal.returns
returns c = slot_of_again
