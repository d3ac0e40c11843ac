use Rattle.std.proofs.Common.{arith}
use Rattle.std.proofs.lemmas.Grind.{common_steps}
use Rattle.script.specs.Runs.{pair_of}
use Rattle.script.proofs.RunLaws.{all_runs-step, all_runs-bad_step, all_runs-last, all_runs-bad_last}
use Rattle.script.proofs.runs.first_run.Goals as goal

pub returns-in_err-run-in-Some-clause-runs : goal.returns-in_err-run-in-Some-clause-runs
returns-in_err-run-in-Some-clause-runs c = grind (arith, common_steps, all_runs-bad_step c.args.text.now c.in-Some.part.now c.in-Some.behind.now)

pub returns-in_err-run-in-None-clause-runs : goal.returns-in_err-run-in-None-clause-runs
returns-in_err-run-in-None-clause-runs c = grind (arith, common_steps, all_runs-bad_last c.args.text.now)

pub returns-in_ok-run-in-Some-clause-runs : goal.returns-in_ok-run-in-Some-clause-runs
returns-in_ok-run-in-Some-clause-runs c = grind (arith, common_steps, all_runs-step c.args.text.now c.in-Some.part.now c.in-Some.behind.now (pair_of c.in_ok-run-in-Some.run'))

pub returns-in_ok-run-in-None-clause-runs : goal.returns-in_ok-run-in-None-clause-runs
returns-in_ok-run-in-None-clause-runs c = grind (arith, common_steps, all_runs-last c.args.text.now (pair_of c.in_ok-run-in-None.run'))
