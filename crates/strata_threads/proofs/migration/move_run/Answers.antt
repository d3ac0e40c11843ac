use Rattle.strata_threads.proofs.migration.move_run.Goals as goal

pub returns-in-Ok-clause-moved : goal.returns-in-Ok-clause-moved
returns-in-Ok-clause-moved g c = λ _. record {
  looked = c.args.kernel.now;
  inode = c.args.inode;
  first = c.args.first;
  count = c.args.count;
  can = c.in-Ok.ensures.can.0;
  moved = c.in-Ok.ensures.moved;
  step = c.in-Ok.ensures.step;
}
