use Rattle.client_plan.proofs.Stepping.{logged_ready, logged_step, logged_sound, logged_growth}
use Rattle.client_plan.proofs.laws.logged_call_is_a_step.Goals as goal

pub returns : goal.returns
returns c = record {
  ready = λ k h call entry reply made change of. logged_ready k h of call entry reply made change;
  step = λ k g held h call entry reply made change sound agrees of. logged_step k h of call g held sound agrees entry reply made change;
  sound = λ k g held h call entry reply made change sound agrees of. logged_sound k h of call g held sound agrees entry reply made change;
  growth = λ k g held h call entry reply made change sound agrees of. logged_growth k h of call g held sound agrees entry reply made change;
}
