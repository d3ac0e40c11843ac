use Rattle.std.proofs.Common.{List, ap, ◌∙◌}
use Rattle.system_laws.specs.file_graph.Graph.{Graph, graph_of}
use Rattle.system_laws.specs.log_record.declared.format.Record.{Record}
use Rattle.system_laws.specs.world_invariant.Logs.{after_records}
use Rattle.interleavings.proofs.NodePuts.{on_ok}
use Rattle.interleavings.proofs.Snapshots.{after_both, kept_of_seat}
use Rattle.interleavings.proofs.snapshot.put_log.Goals as goal

pub returns : goal.returns
returns g c =
    let first = graph_of c.args.graph.now in
    let sealed = c.sealed_records.result.now in
    let current = c.current_records.result.now in
    on_ok c.put_records-2.result (λ done. done
    ∙ ap (λ (h : Graph). after_records h current) c.in_ok-put_records.ensures
    ∙ after_both first sealed current
    ∙ ap (λ (rs : List Record). after_records first rs) (kept_of_seat g.M.Media c.args.system.now c.args.client sealed current (c.sealed_records.ensures.there c.requires.client) (c.current_records.ensures.there c.requires.client))) c.put_records-2.ensures
