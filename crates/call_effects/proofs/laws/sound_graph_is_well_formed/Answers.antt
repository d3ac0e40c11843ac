use Rattle.call_effects.proofs.WellFormed.{well_formed}
use Rattle.call_effects.proofs.laws.sound_graph_is_well_formed.Goals as goal

pub returns : goal.returns
returns c = well_formed
