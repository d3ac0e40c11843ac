use Rattle.command_line.proofs.Asking.{asks_taken}
use Rattle.thread_runs.specs.StopWords.{HasBadStop, IsStopIn, first}
use Rattle.thread_runs.proofs.first_options.first_stop.Goals as goal

pub returns : goal.returns
returns c =
    asks_taken first c.args.words.now IsStopIn HasBadStop c.in_ok-matches.matches c.stop_in.result c.in_ok-matches.ensures c.stop_in.ensures.read
    c.stop_in.ensures.refused
