use Rattle.std.proofs.Common.{◌≡◌, ◌++◌, length, map}
use Rattle.std.specs.Vec.Iter.{into_iter_items, into_iter_len}
use Rattle.workload_cli.specs.Rests.{beneath}
use Rattle.workload_cli.specs.Trips.{RegionsCount}
use Rattle.workload_cli.proofs.fresh_parts.count_regions.Given as goal

abbrev pub invariant-loop-medium : goal.invariant-loop-medium
invariant-loop-medium g l = record {
  named : RegionsCount (g.C.Counting.counts l.counting) l.counted.items;
  counted : map beneath l.counted.items ≡ l.yielded;
  split : l.yielded ++ into_iter_items l.medium-iterator ≡ l.fn.media.items;
  long : into_iter_len l.medium-iterator ≡ length (into_iter_items l.medium-iterator);
}
