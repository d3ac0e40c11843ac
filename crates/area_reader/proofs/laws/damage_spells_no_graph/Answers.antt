use Rattle.area_reader.proofs.Damages.{damage_none}
use Rattle.area_reader.proofs.laws.damage_spells_no_graph.Goals as goal

pub returns : goal.returns
returns c = λ g s what block damaged is. damage_none g s what block damaged is.spelled is.units
