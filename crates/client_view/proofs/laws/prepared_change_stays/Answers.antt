use Rattle.client_view.proofs.Stays.{still_prepared}
use Rattle.client_view.proofs.laws.prepared_change_stays.Goals as goal

pub returns : goal.returns
returns c = λ k more h call reply change of comes kept. still_prepared k more h call reply change of comes kept
