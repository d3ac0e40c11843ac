use Rattle.std.proofs.Common.{inl, refl}
use Rattle.call_effects.proofs.Changes.{fair_of}
use Rattle.call_effects.proofs.KnownGone.{no_call_meets}
use Rattle.call_effects.proofs.known_laws.no_call_meets_a_file_that_is_gone.Goals as goal

pub returns-clause-stored : goal.returns-clause-stored
returns-clause-stored c = λ g held client call sound. no_call_meets g g held client call (fair_of g held sound) (λ i. inl refl)

pub returns-clause-put_back : goal.returns-clause-put_back
returns-clause-put_back c = λ g back held client call sound put_back. no_call_meets g back held client call (fair_of g held sound) put_back
