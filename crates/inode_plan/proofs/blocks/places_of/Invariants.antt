use Rattle.inode_plan.specs.DirectoryStart.{ArePlacesOf}
use Rattle.inode_plan.proofs.blocks.places_of.Given as goal

abbrev pub invariant-each : goal.invariant-each
invariant-each l = ArePlacesOf l.found l.block l.places.items
