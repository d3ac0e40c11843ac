use Rattle.digester.proofs.PlanRuns as runs
use Rattle.digester.proofs.plan_laws.a_first_bad_record_is_the_only_one.Goals as goal

pub returns : goal.returns
returns c = record { place = runs.place; before = runs.before; bad = runs.bad; alone = runs.alone; never = runs.never }
