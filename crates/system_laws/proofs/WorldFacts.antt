-- What the laws of events rest on, by what holds of each medium.
use Rattle.tier_device.specs.declared.media.Media.{Ghosts}
use Rattle.tier_device.specs.declared.media.Tier.{Tier}
use Rattle.system_laws.proofs.Given.{Given}
use Rattle.system_laws.proofs.StopsNow.{IsSized, world_stops_now}
use Rattle.system_laws.proofs.Trees.{tree_is}

-- what a read gives is left now, and what is left is as long as what is read
pub world_facts : {M : Type 0} (device : Ghosts M) → ((m : M) (t : Tier) → device.left m (device.moment m) t (device.seen m t)) → IsSized device → Given device
world_facts device seen_now sized = record {
  tree_is = λ v w accepted marks cut is leaves. tree_is device v w accepted marks cut is leaves seen_now;
  stops = world_stops_now device sized (λ v w accepted marks cut is leaves. tree_is device v w accepted marks cut is leaves seen_now);
}
