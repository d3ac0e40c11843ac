use Rattle.std.proofs.Common.{arith, rules, sym, ◌∙◌}
use Rattle.std.proofs.lemmas.Grind.{common_steps}
use Rattle.script.proofs.Numbers.{number_from-full, number_from-other, number_from-digit, number_from-end}
use Rattle.script.proofs.number.number_of.Goals as goal

pub returns-in_err-checked_mul : goal.returns-in_err-checked_mul
returns-in_err-checked_mul c = grind (arith, common_steps, number_from-full c.loop-byte.value)

pub returns-in_err-value : goal.returns-in_err-value
returns-in_err-value c = grind (arith, common_steps, number_from-full c.loop-byte.value)

pub returns : goal.returns
returns c = sym (c.loop-byte.invariant.spelled ∙ number_from-end c.loop-byte.value c.loop-byte.byte-index c.args.word.now (search rules) c.loop-byte.invariant.below)

pub returns-in_err-digit : goal.returns-in_err-digit
returns-in_err-digit c = grind (arith, common_steps, number_from-other c.loop-byte.value)

pub loop-byte-preserved : goal.loop-byte-preserved
loop-byte-preserved c = record {
  spelled = grind (arith, common_steps, number_from-digit c.loop-byte.value);
  below = grind (arith, common_steps);
}
