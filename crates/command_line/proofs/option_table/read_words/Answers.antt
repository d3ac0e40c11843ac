use Rattle.std.proofs.Common.{◌≡◌, ◌∙◌, ap, sym, subst}
use Rattle.clap.specs.Words.{App, HasKind, app_of, fault_of, is_simple, is_simple_and_free, matches_of}
use Rattle.command_line.specs.Options.{program_with, rules_in, texts}
use Rattle.command_line.proofs.OptionTables.{table_is_free, table_is_simple}
use Rattle.command_line.proofs.WordsFaults.{fault_kinds}
use Rattle.command_line.proofs.option_table.read_words.Goals as goal

pub returns-in_err-matches : goal.returns-in_err-matches
returns-in_err-matches c =
    let is : app_of c.in_ok-command.command ≡ program_with c.args.program.name.now (rules_in c.args.options.now) = c.in_ok-command.ensures in
    let kinds = c.in_err-matches.ensures.kinds (ap is_simple_and_free is ∙ table_is_free c.args.program.name.now c.args.options.now) in
    fault_kinds _ _ _ c.in_err-matches.field-0.0 (subst (λ (a : App). HasKind (fault_of a (texts c.args.words.now)) c.in_err-matches.field-0.0) is kinds)
    c.from_residual-in_err-matches.ensures.1

pub returns : goal.returns
returns c =
    let is : app_of c.in_ok-command.command ≡ program_with c.args.program.name.now (rules_in c.args.options.now) = c.in_ok-command.ensures in
    let none = c.in_ok-matches.ensures.kinds (ap is_simple_and_free is ∙ table_is_free c.args.program.name.now c.args.options.now) in
    let found = c.in_ok-matches.ensures.matches (ap is_simple is ∙ table_is_simple c.args.program.name.now c.args.options.now) in
    (ap (λ (a : App). fault_of a (texts c.args.words.now)) (sym is) ∙ none, found.0 ∙ ap (λ (a : App). matches_of a (texts c.args.words.now)) is)
