use Rattle.std.proofs.Common.{sym, arith, option_map}
use Rattle.std.proofs.lemmas.Grind.{common_steps}
use Rattle.script.specs.Script.{parts, words_in}
use Rattle.script.proofs.FillLaws.{fill_behind-start, fill_behind-end, fill_behind-bad, fill_behind-other, fill_behind-first, fill_behind-twice}
use Rattle.script.proofs.fills.medium_fill.Goals as goal

pub loop-rest-init : goal.loop-rest-init
loop-rest-init c = sym (fill_behind-start c.args.medium (parts 32 c.args.words.now))

pub returns-in_err-name : goal.returns-in_err-name
returns-in_err-name c = grind (arith, common_steps, fill_behind-bad, c.loop-rest.invariant, c.first_word.ensures.words)

pub returns-then-is_some : goal.returns-then-is_some
returns-then-is_some c =
    let first = c.first_word.result in
    grind (arith, common_steps, fill_behind-twice c.loop-rest.found c.args.medium first.0.now (words_in (option_map (λ t. t.now) first.1)) (c.in_ok-name.name, c.in_ok-name.fill), c.loop-rest.invariant, c.first_word.ensures.words)

pub loop-rest-preserved-else-is_some : goal.loop-rest-preserved-else-is_some
loop-rest-preserved-else-is_some c =
    let first = c.first_word.result in
    grind (arith, common_steps, fill_behind-first c.loop-rest.found c.args.medium first.0.now (words_in (option_map (λ t. t.now) first.1)) (c.in_ok-name.name, c.in_ok-name.fill), c.loop-rest.invariant, c.first_word.ensures.words)

pub loop-rest-preserved : goal.loop-rest-preserved
loop-rest-preserved c =
    let first = c.first_word.result in
    grind (arith, common_steps, fill_behind-other c.loop-rest.found c.args.medium first.0.now (words_in (option_map (λ t. t.now) first.1)) (c.in_ok-name.name, c.in_ok-name.fill), c.loop-rest.invariant, c.first_word.ensures.words)

pub returns : goal.returns
returns c = grind (arith, common_steps, fill_behind-end, c.loop-rest.invariant)
