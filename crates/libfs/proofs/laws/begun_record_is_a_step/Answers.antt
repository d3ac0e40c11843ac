use Rattle.libfs.specs.ClientHoldings.{holdings_of, known_to}
use Rattle.libfs.proofs.Ready.{has_of}
use Rattle.libfs.proofs.laws.begun_record_is_a_step.Goals as goal

pub returns-clause-ready : goal.returns-clause-ready
returns-clause-ready g c = λ v call entry reply made change is. c.logged_call_is_a_step.ensures.ready (known_to v) (holdings_of g.M.Media v) call entry reply made change (has_of g.M.Media v) is

pub returns-clause-growth : goal.returns-clause-growth
returns-clause-growth g c = λ v whole held call entry reply made change sound agrees is. c.logged_call_is_a_step.ensures.growth (known_to v) whole held (holdings_of g.M.Media v) call entry reply made change sound agrees (has_of g.M.Media v) is

pub returns-clause-step : goal.returns-clause-step
returns-clause-step g c = λ v whole held call entry reply made change sound agrees is. c.logged_call_is_a_step.ensures.step (known_to v) whole held (holdings_of g.M.Media v) call entry reply made change sound agrees (has_of g.M.Media v) is

pub returns-clause-sound : goal.returns-clause-sound
returns-clause-sound g c = λ v whole held call entry reply made change sound agrees is. c.logged_call_is_a_step.ensures.sound (known_to v) whole held (holdings_of g.M.Media v) call entry reply made change sound agrees (has_of g.M.Media v) is

pub returns-clause-agrees : goal.returns-clause-agrees
returns-clause-agrees g c = λ v whole held call entry reply made change sound agrees is. c.logged_call_keeps_agreement.ensures (known_to v) whole held (holdings_of g.M.Media v) call entry reply made change sound agrees (has_of g.M.Media v) is
