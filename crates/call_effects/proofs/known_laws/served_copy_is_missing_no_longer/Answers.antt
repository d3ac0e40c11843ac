use Rattle.std.proofs.Common.{Ok}
use Rattle.posix_calls.specs.Decide.{decide}
use Rattle.call_effects.specs.Records.{effects_asked, growth_asked}
use Rattle.call_effects.proofs.Changes.{fair_of}
use Rattle.call_effects.proofs.KnownMissing.{copy_is_enough, blocks_are_enough, stays_known}
use Rattle.call_effects.proofs.known_laws.served_copy_is_missing_no_longer.Goals as goal

pub returns-clause-call : goal.returns-clause-call
returns-clause-call c = λ k i copy call. copy_is_enough k i copy (decide k.own call)

pub returns-clause-effects : goal.returns-clause-effects
returns-clause-effects c = λ k i copy new operation. copy_is_enough k i copy (effects_asked new operation)

pub returns-clause-growth : goal.returns-clause-growth
returns-clause-growth c = λ k i copy operation. copy_is_enough k i copy (growth_asked operation)

pub returns-clause-blocks : goal.returns-clause-blocks
returns-clause-blocks c = λ k i first count block call. blocks_are_enough k i first count block (decide k.own call)

pub returns-clause-call_known : goal.returns-clause-call_known
returns-clause-call_known c = λ k more g held call result sound less agrees all. stays_known k more all g held (fair_of g held sound) less agrees (decide k.own call) result

pub returns-clause-effects_known : goal.returns-clause-effects_known
returns-clause-effects_known c = λ k more g held new operation es sound less agrees all. stays_known k more all g held (fair_of g held sound) less agrees (effects_asked new operation) (Ok es)

pub returns-clause-growth_known : goal.returns-clause-growth_known
returns-clause-growth_known c = λ k more g held operation units sound less agrees all. stays_known k more all g held (fair_of g held sound) less agrees (growth_asked operation) (Ok units)
