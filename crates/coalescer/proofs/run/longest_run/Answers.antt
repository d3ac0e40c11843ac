use Rattle.coalescer.proofs.Runs.{all_fit}
use Rattle.coalescer.proofs.run.longest_run.Goals as goal

pub returns-then-branch-clause-exact : goal.returns-then-branch-clause-exact
returns-then-branch-clause-exact c = all_fit c.args.records.now (c.in_ok-surely_fit.ensures.fits c.if-branch.true)
