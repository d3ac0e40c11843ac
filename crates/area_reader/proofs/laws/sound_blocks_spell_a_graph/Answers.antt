use Rattle.area_reader.proofs.Complete.{openable}
use Rattle.area_reader.proofs.laws.sound_blocks_spell_a_graph.Goals as goal

pub returns : goal.returns
returns c = λ g s superblock sound. openable g s sound superblock
