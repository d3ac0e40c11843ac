use Rattle.std.proofs.Common.{◌++◌}
use Rattle.log_survey.proofs.regions.logs_that_count.Goals as goal

pub returns-clause-records : goal.returns-clause-records
returns-clause-records c = λ regions read.
    (λ k. c.rest_of.ensures.records regions read k ++ c.region_of.ensures.records regions c.args.lengths read k)
