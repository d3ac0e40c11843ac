use Rattle.std.proofs.Common.{sym, ◌∙◌, arith}
use Rattle.posix_calls.specs.Own.{own_of}
use Rattle.posix_calls.proofs.Places.{free_below, taken_below, none_left}
use Rattle.posix_calls.proofs.own.OwnDescriptors.lowest_free.Goals as goal

pub returns-in_default : goal.returns-in_default
returns-in_default c = sym (c.loop-number.invariant ∙ free_below (own_of c.args.self.now) c.loop-number.number 32 (sym c.get.ensures ∙ c.in_default.is) c.loop-number-test.true)

pub loop-number-preserved : goal.loop-number-preserved
loop-number-preserved c = c.loop-number.invariant ∙ taken_below (own_of c.args.self.now) c.loop-number.number 32 c.in-Some.field-0 (sym c.get.ensures ∙ c.in-Some.is) c.loop-number-test.true

pub returns : goal.returns
returns c = sym (c.loop-number.invariant ∙ none_left (own_of c.args.self.now) c.loop-number.number 32 (omega arith))
