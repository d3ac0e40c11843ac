use Rattle.coalescer.specs.Records.{effects_in}
use Rattle.digester.specs.Plan.{records_change}
use Rattle.digester.proofs.Applied as applied
use Rattle.digester.proofs.plan_laws.a_chunk_can_be_applied.Goals as goal

pub returns : goal.returns
returns c = record {
  bounded = applied.good_bounded;
  images = λ g rs. applied.fit_images g (effects_in rs);
  blocks = λ g rs. applied.fit_blocks g (effects_in rs);
  limits = applied.good_limits;
  others = λ g rs. applied.others_stay g (records_change g rs);
  charge = applied.good_charge;
}
