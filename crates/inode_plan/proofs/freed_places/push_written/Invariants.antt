use Rattle.std.proofs.Common.{◌≡◌, ◌++◌, take}
use Rattle.std.specs.List.{AllByRecursion}
use Rattle.block_alloc.specs.Runs.{blocks_of}
use Rattle.area_commit.specs.extent_tree.Map.{runs_in, HasBlock}
use Rattle.inode_plan.specs.MapChange.{places_below}
use Rattle.inode_plan.proofs.freed_places.push_written.Given as goal

abbrev pub invariant-each : goal.invariant-each
invariant-each l = record {
  places : blocks_of l.out.items ≡ blocks_of l.fn.out.items ++ places_below (runs_in l.map l.tier) l.end (take l.index l.numbers);
  some : AllByRecursion HasBlock l.fn.out.items → AllByRecursion HasBlock l.out.items;
}
