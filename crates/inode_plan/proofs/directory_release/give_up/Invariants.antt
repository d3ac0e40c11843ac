use Rattle.std.proofs.Common.{◌≡◌, take, map}
use Rattle.inode_plan.specs.Blocks.{one_block}
use Rattle.inode_plan.proofs.directory_release.give_up.Given as goal

abbrev pub invariant-each : goal.invariant-each
invariant-each l = l.runs.items ≡ map one_block (take l.index l.places)
