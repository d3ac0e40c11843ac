use Rattle.std.proofs.Common.{inr, refl}
use Rattle.world_invariant.proofs.Replies.{answered_holds, answered_step, refused}
use Rattle.world_invariant.proofs.call_laws.call_without_a_record_is_a_step.Goals as goal

pub returns-clause-holds : goal.returns-clause-holds
returns-clause-holds c = λ w c call new operation h can. answered_holds w c call new operation h can

pub returns-clause-step : goal.returns-clause-step
returns-clause-step c = λ w c call new operation h can. answered_step w c call new operation h can

pub returns-clause-refused : goal.returns-clause-refused
returns-clause-refused c = λ w c call errno h is_c known. refused w c h is_c call errno known

pub returns-clause-given_up : goal.returns-clause-given_up
returns-clause-given_up c = λ w c call errno may. inr (errno, may, refl, refl)
