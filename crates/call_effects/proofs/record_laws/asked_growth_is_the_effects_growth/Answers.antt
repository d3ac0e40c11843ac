use Rattle.call_effects.proofs.GrowthAsked.{growth_as_asked}
use Rattle.call_effects.proofs.record_laws.asked_growth_is_the_effects_growth.Goals as goal

pub returns : goal.returns
returns c = λ g held own new operation sound. growth_as_asked g held sound own new operation
