use Rattle.std.proofs.Common.{arith}
use Rattle.extent_tree.proofs.Runs.{few_below, ends_below}
use Rattle.extent_tree.proofs.map_laws.few_blocks_are_few_runs.Goals as goal

pub returns : goal.returns
returns c = record {
  few = λ n es normal below. let fits = few_below n 0 4294967295 es normal.rising below (omega arith) in omega (arith, fits);
  end = λ n es normal below. ends_below n 0 4294967295 es normal.rising below;
}
