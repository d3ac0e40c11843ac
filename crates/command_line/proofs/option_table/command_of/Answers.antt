use Rattle.std.proofs.Common.{◌∙◌, ap₂, arith}
use Rattle.clap.specs.Words.{with_rule}
use Rattle.command_line.proofs.OptionTables.{one_more}
use Rattle.command_line.proofs.option_table.command_of.Goals as goal

pub loop-option-preserved : goal.loop-option-preserved
loop-option-preserved c =
    c.in_ok-command.ensures.shape c.argument.ensures.local ∙ ap₂ with_rule c.loop-option.invariant c.argument.ensures.rule
    ∙ one_more c.args.program.name.now c.args.options.now c.loop-option.option-index _ (omega arith)
