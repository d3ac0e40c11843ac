use Rattle.std.proofs.Common.{◌≡◌, ◌∙◌, ap, sym, Option, Some, rules}
use Rattle.std.specs.Prelude.{pos}
use Rattle.clap.specs.Words.{Rule, rule_of, new_rule}
use Rattle.clap.specs.declared.builder.action.ArgAction.TheVariants.{Set}
use Rattle.clap.specs.declared.builder.value_parser.ValueParser.{ValueParser}
use Rattle.clap.specs.declared.builder.value_parser.ValueParser.TheVariants as parsers
use Rattle.command_line.specs.Options.{option_of}
use Rattle.command_line.proofs.option_table.argument.Goals as goal

abbrev valued : Rule → Rule
valued r = record r { action = Some Set; value_names = 1 }

abbrev parsed : Option ValueParser → Rule → Rule
parsed p r = record r { parser = p }

pub returns-in-Text-clause-rule : goal.returns-in-Text-clause-rule
returns-in-Text-clause-rule c =
    let named : rule_of c.help-argument.result ≡ record (new_rule c.args.option.name.now) { long = Some c.args.option.name.now } = search rules in
    c.with_value.ensures.rule ∙ ap valued named ∙ ap (option_of c.args.option.name.now) (sym c.in-Text.is)

pub returns-in-Number32-clause-rule : goal.returns-in-Number32-clause-rule
returns-in-Number32-clause-rule c =
    let named : rule_of c.help-argument.result ≡ record (new_rule c.args.option.name.now) { long = Some c.args.option.name.now } = search rules in
    let given = c.value_parser.ensures.given in
    let made : given.0 ≡ parsers.Signed (pos c.in-Number32.least) (pos c.in-Number32.most) = search rules in
    ap rule_of c.value_parser.ensures.others ∙ ap (λ (p : Option ValueParser). parsed p (rule_of c.with_value-in-Number32.result)) (given.1 ∙ ap Some made)
    ∙ ap (parsed (Some (parsers.Signed (pos c.in-Number32.least) (pos c.in-Number32.most)))) (c.with_value-in-Number32.ensures.rule ∙ ap valued named)
    ∙ ap (option_of c.args.option.name.now) (sym c.in-Number32.is)

pub returns-in-Number64-clause-rule : goal.returns-in-Number64-clause-rule
returns-in-Number64-clause-rule c =
    let named : rule_of c.help-argument.result ≡ record (new_rule c.args.option.name.now) { long = Some c.args.option.name.now } = search rules in
    let given = c.value_parser-in-Number64.ensures.given in
    let made : given.0 ≡ parsers.Unsigned c.in-Number64.least 18446744073709551615 = search rules in
    ap rule_of c.value_parser-in-Number64.ensures.others ∙ ap (λ (p : Option ValueParser). parsed p (rule_of c.with_value-in-Number64.result)) (given.1 ∙ ap Some made)
    ∙ ap (parsed (Some (parsers.Unsigned c.in-Number64.least 18446744073709551615))) (c.with_value-in-Number64.ensures.rule ∙ ap valued named)
    ∙ ap (option_of c.args.option.name.now) (sym c.in-Number64.is)
