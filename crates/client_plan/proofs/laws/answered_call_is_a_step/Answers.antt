use Rattle.client_plan.proofs.Stepping.{answered_ready, answered_sound, answered_step}
use Rattle.client_plan.proofs.laws.answered_call_is_a_step.Goals as goal

pub returns : goal.returns
returns c = record {
  ready = λ k h call reply change of. answered_ready k h of call reply change;
  sound = λ k g held h call reply change sound agrees of. answered_sound k h of call g held sound agrees reply change;
  step = λ k g held h call reply change sound agrees of. answered_step k h of call g held sound agrees reply change;
}
