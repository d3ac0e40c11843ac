use Rattle.libfs.specs.ClientHoldings.{holdings_of, known_to}
use Rattle.libfs.proofs.Agreeing.{changed_agrees}
use Rattle.libfs.proofs.Ready.{has_of}
use Rattle.libfs.proofs.laws.answered_start_is_a_step.Goals as goal

pub returns-clause-has : goal.returns-clause-has
returns-clause-has g c = λ v. has_of g.M.Media v

pub returns-clause-ready : goal.returns-clause-ready
returns-clause-ready g c = λ v call reply change is. c.answered_call_is_a_step.ensures.ready (known_to v) (holdings_of g.M.Media v) call reply change (has_of g.M.Media v) is

pub returns-clause-sound : goal.returns-clause-sound
returns-clause-sound g c = λ v whole held call reply change sound agrees is. c.answered_call_is_a_step.ensures.sound (known_to v) whole held (holdings_of g.M.Media v) call reply change sound agrees (has_of g.M.Media v) is

pub returns-clause-step : goal.returns-clause-step
returns-clause-step g c = λ v whole held call reply change sound agrees is. c.answered_call_is_a_step.ensures.step (known_to v) whole held (holdings_of g.M.Media v) call reply change sound agrees (has_of g.M.Media v) is

pub returns-clause-agrees : goal.returns-clause-agrees
returns-clause-agrees g c = λ v whole held change agrees. changed_agrees (known_to v) whole held change agrees
