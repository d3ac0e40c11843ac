use Rattle.layout.proofs.SlotLaws.{slot_of_takes}
use Rattle.layout.proofs.laws.slot_is_spelled.Goals as goal

pub returns : goal.returns
returns c = slot_of_takes
