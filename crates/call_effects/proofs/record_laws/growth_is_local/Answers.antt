use Rattle.call_effects.proofs.Rises.{growth_local}
use Rattle.call_effects.proofs.record_laws.growth_is_local.Goals as goal

pub returns : goal.returns
returns c = growth_local
