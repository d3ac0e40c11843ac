use Rattle.client_view.proofs.Agreement.{logged_agrees}
use Rattle.client_view.proofs.laws.logged_call_keeps_agreement.Goals as goal

pub returns : goal.returns
returns c = logged_agrees
