use Rattle.std.proofs.Common.{◌≡◌, ◌+◌, ◌-◌, ℕ, ap, sym, ◌∙◌, arith}
use Rattle.system_laws.specs.file_graph.Graph.{Graph, graph_of}
use Rattle.system_laws.specs.world_invariant.Logs.{after_clients, after_records}
use Rattle.interleavings.specs.Snapshots.{kept_log}
use Rattle.interleavings.proofs.Snapshots.{more_logs, no_logs}
use Rattle.interleavings.proofs.snapshot.put_logs.Goals as goal

pub loop-client-init : goal.loop-client-init
loop-client-init g c = record { low = omega arith; done = sym (no_logs (kept_log g.M.Media c.args.system.now) (graph_of c.args.graph.now)) }

pub loop-client-preserved : goal.loop-client-preserved
loop-client-preserved g c =
    let logs = kept_log g.M.Media c.args.system.now in
    let first = graph_of c.args.graph.now in
    let client = c.loop-client.client in
    let low = c.loop-client.invariant.low in
    let same : client + 1 - 1 ≡ client = omega arith in
    record {
      low = omega (arith, low);
      done = c.in_ok-put_log.ensures
          ∙ ap (λ (h : Graph). after_records h (logs client)) c.loop-client.invariant.done
          ∙ more_logs logs first client low
          ∙ sym (ap (λ (n : ℕ). after_clients logs first n) same);
    }

pub returns : goal.returns
returns g c =
    let off = c.loop-client-test.false in
    let end = c.loop-client.auto.client-end in
    let last : c.loop-client.client - 1 ≡ 8 = omega (arith, off, end) in
    c.loop-client.invariant.done ∙ ap (λ (n : ℕ). after_clients (kept_log g.M.Media c.args.system.now) (graph_of c.args.graph.now) n) last
