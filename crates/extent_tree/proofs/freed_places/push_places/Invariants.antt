use Rattle.std.proofs.Common.{◌≡◌, ◌≤◌, ◌+◌, ◌-◌, ◌++◌}
use Rattle.std.specs.List.{AllByRecursion}
use Rattle.block_alloc.specs.Runs.{blocks_of}
use Rattle.extent_tree.specs.Map.{places_of, HasBlock}
use Rattle.extent_tree.proofs.freed_places.push_places.Given as goal

-- what has come, and the places of what is left, are all
abbrev pub invariant-each : goal.invariant-each
invariant-each l = record {
  sum : blocks_of l.out.items ++ places_of l.tree.runs l.block (l.fn.blocks.first + l.fn.blocks.count - l.block) ≡ blocks_of l.fn.out.items ++ places_of l.tree.runs l.fn.blocks.first l.fn.blocks.count;
  within : l.block ≤ l.stop;
  some : AllByRecursion HasBlock l.fn.out.items → AllByRecursion HasBlock l.out.items;
}
