use Rattle.std.proofs.Common.{sym, subst, ◌≤◌, ◌∙◌}
use Rattle.record_validation.proofs.Goods.{bad_held, bad_limits, good, is_not, is_so}
use Rattle.record_validation.proofs.verdict.test_record.Goals as goal

pub returns-then-not-are_held-clause-answer : goal.returns-then-not-are_held-clause-answer
returns-then-not-are_held-clause-answer c = λ g agrees costs. bad_held c.args.held.now c.args.capacity g c.args.next.now c.as_slice-effects.result.now c.as_slice-effects.ensures (sym c.are_held.ensures ∙ c.if-not-are_held.true)

pub returns-then-not-tally-clause-answer : goal.returns-then-not-tally-clause-answer
returns-then-not-tally-clause-answer c = λ g agrees costs. bad_limits c.args.known.now c.args.held.now c.args.capacity g c.args.next.now c.as_slice-effects.result.now c.as_slice-effects.ensures c.in-Ok.ensures.known agrees (sym c.in-Ok.ensures.within ∙ is_not c.in-Ok.tally.within c.if-not-tally.true)

pub returns-in-Some-clause-answer : goal.returns-in-Some-clause-answer
returns-in-Some-clause-answer c = λ g agrees costs. good c.args.known.now c.args.held.now c.args.used c.args.capacity c.in-Ok.tally.costs.before c.in-Ok.tally.costs.after c.in-Some.charge g c.args.next.now c.as_slice-effects.result.now c.as_slice-effects.ensures c.requires.spelled c.in-Ok.ensures.known agrees costs
    (sym c.are_held.ensures ∙ c.if-not-are_held.false)
    (subst (λ n. n ≤ c.args.next.now.units) (sym (c.in-Ok.ensures.growth g agrees)) c.if-tally-next.false)
    (sym c.in-Ok.ensures.within ∙ is_so c.in-Ok.tally.within c.if-not-tally.false)
    (c.in-Ok.ensures.charge g agrees)
    (sym c.charge_after.ensures ∙ c.in-Some.is)
