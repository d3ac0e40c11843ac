use Rattle.call_effects.proofs.KnownSwaps.{planned_swaps}
use Rattle.call_effects.proofs.known_laws.planned_swaps_are_known.Goals as goal

pub returns : goal.returns
returns c = λ k call new operation es plan. planned_swaps k call new operation es plan
