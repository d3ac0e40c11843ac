use Rattle.std.proofs.Common.{◌≡◌, List, drop, subst}
use Rattle.std.proofs.lemmas.Result.{on_ok_weaker}
use Rattle.plain_tree.specs.file_graph.Graph.{graph_of}
use Rattle.script.specs.log_record.declared.format.Record.{Record}
use Rattle.thread_runs.specs.FirstPath.{after_replay}
use Rattle.thread_runs.proofs.first_recovery.recover.Goals as goal

-- the records that were found are those of what the stop left
pub returns : goal.returns
returns c =
    let before = graph_of c.args.graph.now in
    let after = graph_of c.replay.new.graph in
    on_ok_weaker c.replay.result (λ done. (c.in_ok-found.found.items, c.in_ok-found.ensures, subst (λ (found : List Record). after ≡ after_replay before (drop c.args.done found)) c.deref.ensures.value done)) c.replay.ensures
