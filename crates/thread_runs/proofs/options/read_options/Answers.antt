use Rattle.command_line.proofs.Asking.{asks_taken}
use Rattle.thread_runs.specs.RunOptions.{AreRunOptions, HasBadRun, run}
use Rattle.thread_runs.proofs.options.read_options.Goals as goal

pub returns : goal.returns
returns c =
    asks_taken run c.args.words.now AreRunOptions HasBadRun c.in_ok-matches.matches c.options_in.result c.in_ok-matches.ensures c.options_in.ensures.read
    c.options_in.ensures.refused
