use Rattle.update_log.specs.View.{records_of}
use Rattle.client_log.proofs.Within.{few_within}
use Rattle.client_log.proofs.sealed_regions.left_of_sealed.Goals as goal

pub returns-clause-few : goal.returns-clause-few
returns-clause-few g c = few_within (records_of g.M.Media c.args.region.now) c.requires.sealed.within
