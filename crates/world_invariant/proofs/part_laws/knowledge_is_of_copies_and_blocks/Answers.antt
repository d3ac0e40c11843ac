use Rattle.world_invariant.proofs.KnownParts.{known_of_copies}
use Rattle.world_invariant.proofs.part_laws.knowledge_is_of_copies_and_blocks.Goals as goal

pub returns : goal.returns
returns r = known_of_copies
