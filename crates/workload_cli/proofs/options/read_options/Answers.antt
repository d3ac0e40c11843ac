use Rattle.command_line.proofs.Asking.{asks_taken}
use Rattle.workload_cli.specs.ShellOptions.{AreShellOptions, HasBadValue, shell}
use Rattle.workload_cli.proofs.options.read_options.Goals as goal

pub returns : goal.returns
returns c =
    asks_taken shell c.args.words.now AreShellOptions HasBadValue c.in_ok-matches.matches c.options_in.result c.in_ok-matches.ensures
    c.options_in.ensures.read c.options_in.ensures.refused
