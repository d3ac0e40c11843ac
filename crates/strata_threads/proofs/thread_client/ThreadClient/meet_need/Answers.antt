use Rattle.std.proofs.Common.{inl, inr, ⊎_elim}
use Rattle.std.proofs.lemmas.Result.{err_from_is_err_and}
use Rattle.strata_threads.proofs.thread_client.ThreadClient.meet_need.Goals as goal

pub returns-in_err-serve_need-clause-unmet : goal.returns-in_err-serve_need-clause-unmet
returns-in_err-serve_need-clause-unmet g c =
    let p = err_from_is_err_and c.from_residual.result c.from_residual.ensures.1 in
    rw (p.1, p.2) (c.args.self.now.client, c.args.need.now, c.requires.needed, c.in_err-serve_need.ensures.unmet)

pub returns-clause-waited : goal.returns-clause-waited
returns-clause-waited g c =
    let waited = c.serve_need.ensures.waited in
    (waited.0, ⊎_elim (λ same. inl same) (λ turn. inr (c.args.self.now.client, c.args.need.now, c.requires.needed, turn)) waited.1)
