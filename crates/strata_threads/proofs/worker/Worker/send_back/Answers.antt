use Rattle.std.proofs.Common.{ap, sym, ◌∙◌, ◌-◌, ◌<◌, ℕ, subst}
use Rattle.strata_threads.proofs.Handover.{sent_at}
use Rattle.strata_threads.proofs.worker.Worker.send_back.Goals as goal

pub returns-clause-sent : goal.returns-clause-sent
returns-clause-sent g c = sent_at c.args.self.now.returns.items (c.args.region.client - 1) c.client_index-index.result c.args.region c.index_mut.result.now c.send.new.queue
    (c.client_index-index.ensures.is ∙ ap (λ (n : ℕ). n - 1) c.client.ensures)
    (subst (λ (n : ℕ). c.client_index-index.result < n) (sym c.args.self.now.eight) c.client_index-index.ensures.within)
    c.index_mut.ensures.value c.send.ensures
