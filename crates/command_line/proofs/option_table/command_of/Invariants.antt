use Rattle.std.proofs.Common.{◌≡◌, take}
use Rattle.clap.specs.Words.{app_of}
use Rattle.command_line.specs.Options.{program_with, rules_in}
use Rattle.command_line.proofs.option_table.command_of.Given as goal

abbrev pub invariant-loop-option : goal.invariant-loop-option
invariant-loop-option l = app_of l.command ≡ program_with l.fn.program.name.now (rules_in (take l.option-index l.options))
