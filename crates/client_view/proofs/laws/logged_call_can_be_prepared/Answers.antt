use Rattle.client_view.proofs.Preparable.{logged_spelled, logged_made}
use Rattle.client_view.proofs.laws.logged_call_can_be_prepared.Goals as goal

pub returns : goal.returns
returns c = record {
  spelled = λ k h call entry reply made change of comes. logged_spelled k h of call entry reply made change comes;
  made = λ k h call entry reply made change of comes. logged_made k h of call entry reply made change comes;
}
