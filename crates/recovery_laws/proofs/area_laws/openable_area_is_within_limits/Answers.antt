use Rattle.recovery_laws.proofs.AreaLimits.{area_within}
use Rattle.recovery_laws.proofs.area_laws.openable_area_is_within_limits.Goals as goal

pub returns : goal.returns
returns c = area_within
