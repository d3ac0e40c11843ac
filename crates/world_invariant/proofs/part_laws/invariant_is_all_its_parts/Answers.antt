use Rattle.world_invariant.proofs.Parts.{parts_of, all_parts}
use Rattle.world_invariant.proofs.part_laws.invariant_is_all_its_parts.Goals as goal

pub returns-clause-each : goal.returns-clause-each
returns-clause-each c = parts_of

pub returns-clause-all : goal.returns-clause-all
returns-clause-all c = all_parts
