use Rattle.std.proofs.Common.{sym, ◌∙◌}
use Rattle.posix_calls.proofs.Chain.{gives_as, bind_gives, bind_stops}
use Rattle.call_effects.proofs.Unchanged.{nothing_asked}
use Rattle.call_effects.proofs.record.record_of.Goals as goal

pub returns-then-not-has_effects-clause-answer : goal.returns-then-not-has_effects-clause-answer
returns-then-not-has_effects-clause-answer g c = nothing_asked _ _ _ (sym c.has_effects.ensures.exact ∙ c.if-not-has_effects.true)

pub returns-in-Err-clause-answer : goal.returns-in-Err-clause-answer
returns-in-Err-clause-answer g c = bind_stops _ (rw c.recounted_file.ensures at c.in-Err.ensures.answer)

pub returns-clause-answer : goal.returns-clause-answer
returns-clause-answer g c = bind_gives _ (rw c.recounted_file.ensures at c.in-Ok.ensures.answer) (gives_as (sym c.effects_by-effects.ensures))
