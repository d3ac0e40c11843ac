use Rattle.std.proofs.Common.{◌≡◌, ◌++◌}
use Rattle.std.specs.Map.{keys_of}
use Rattle.inode_plan.proofs.numbers.put_numbers.Given as goal

abbrev pub invariant-keys : goal.invariant-keys
invariant-keys l = l.numbers.items ++ l.number-iterator ≡ keys_of l.blocks.entries
