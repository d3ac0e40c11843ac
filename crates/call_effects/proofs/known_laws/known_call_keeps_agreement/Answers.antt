use Rattle.call_effects.proofs.KnownAfter.{agrees_after, made_agrees, other_agrees}
use Rattle.call_effects.proofs.known_laws.known_call_keeps_agreement.Goals as goal

pub returns-clause-own : goal.returns-clause-own
returns-clause-own c = λ k g held call new operation es sound agrees plan. agrees_after k g held call new operation es sound agrees plan

pub returns-clause-others : goal.returns-clause-others
returns-clause-others c = λ k other g held call new operation es sound agrees plan known apart copies blocks numbers. other_agrees k g held call new operation es sound agrees plan other known apart copies blocks numbers

pub returns-clause-made : goal.returns-clause-made
returns-clause-made c = λ k g held call new operation es sound agrees plan m. made_agrees k g held call new operation es sound agrees plan m
