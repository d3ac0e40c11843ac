use Rattle.std.proofs.Common.{arith, ◌∙◌}
use Rattle.strata_threads.proofs.thread_set.Ends.open.Goals as goal

pub returns-clause-enough : goal.returns-clause-enough
returns-clause-enough g c = omega (arith, c.in_ok-pairs.ensures, c.requires.few)

pub returns-clause-workers : goal.returns-clause-workers
returns-clause-workers g c = c.in_ok-workers.ensures ∙ c.min.ensures
