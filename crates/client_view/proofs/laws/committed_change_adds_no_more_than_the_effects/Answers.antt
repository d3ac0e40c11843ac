use Rattle.std.proofs.Common.{ℕ, cond, Some, None, Option, ap, sym, subst}
use Rattle.client_plan.specs.call_effects.Knowledge.{IsForgetful, knows_after, knows_made}
use Rattle.client_plan.specs.CallPlan.{change_of}
use Rattle.client_view.specs.AfterRecord.{knows_logged}
use Rattle.client_view.proofs.Agreement.{no_less, one_less}
use Rattle.client_view.proofs.laws.committed_change_adds_no_more_than_the_effects.Goals as goal

pub returns : goal.returns
returns c = record {
  none = λ k new operation es off. subst (λ (made : Option ℕ). IsForgetful (knows_after k new operation es) (knows_logged k es made (change_of new operation))) (sym (ap (λ b. cond b (Some new) None) off)) (no_less k new operation es off);
  made = λ k call new operation es plan on. subst (λ (made : Option ℕ). IsForgetful (knows_made k new operation es) (knows_logged k es made (change_of new operation))) (sym (ap (λ b. cond b (Some new) None) on)) (one_less k new operation es call plan on);
}
