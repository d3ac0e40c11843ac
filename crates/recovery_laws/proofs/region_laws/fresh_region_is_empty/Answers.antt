use Rattle.std.proofs.Common.{◌∙◌}
use Rattle.update_log.proofs.Counts.{header_tells}
use Rattle.recovery_laws.specs.Fresh.{fresh_region}
use Rattle.recovery_laws.proofs.Regions.{region_sized, region_named, region_empty, region_closed}
use Rattle.recovery_laws.proofs.region_laws.fresh_region_is_empty.Goals as goal

pub returns : goal.returns
returns c = record { size = region_sized; named = region_named; header = λ n small. header_tells (fresh_region n) ∙ region_named n small; none = region_empty; closed = region_closed }
