use Rattle.std.proofs.Common.{rules, arith}
use Rattle.inode_plan.proofs.Moves.{first_one, one_more}
use Rattle.inode_plan.proofs.file_places.run_from.Goals as goal

pub more-init : goal.more-init
more-init c = record {
  run = first_one c.args.numbers.now c.args.places.now c.args.first;
  some = omega arith;
  within = search rules;
}

pub more-preserved : goal.more-preserved
more-preserved c = record {
  run = one_more c.args.numbers.now c.args.places.now c.args.first c.more.count c.more.invariant.run (search rules);
  some = omega arith;
  within = search rules;
}
