use Rattle.call_effects.proofs.Steps.{answer_fits}
use Rattle.call_effects.proofs.laws.answered_operation_fits.Goals as goal

pub returns : goal.returns
returns c = answer_fits
