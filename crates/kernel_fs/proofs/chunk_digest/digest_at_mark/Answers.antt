use Rattle.std.proofs.Common.{◌≡◌, ◌≤◌, ◌+◌, ◌-◌, ℕ, List, take, drop, ap, ◌∙◌, subst}
use Rattle.world_invariant.specs.log_record.declared.format.Record.{Record}
use Rattle.digester.specs.SealedLog.{SealedView, done_to}
use Rattle.world_invariant.specs.Logs.{units_in}
use Rattle.kernel_fs.specs.Book.{units_of, out_of}
use Rattle.kernel_fs.proofs.Digested.{lent}
use Rattle.kernel_fs.proofs.chunk_digest.digest_at_mark.Goals as goal

pub returns-clause-law : goal.returns-clause-law
returns-clause-law g c =
    let x = c.args.log.now in
    let y = c.digest_chunk.new.sealed in
    let same : y ≡ done_to (x.done + c.args.chunk.now.count) x = c.in_ok-digest_chunk.ensures.done in
    let client : c.client.result ≡ x.client = c.client.ensures ∙ ap (λ (z : SealedView). z.client) same in
    let its : List Record = take (c.digested_count-end.result - c.digested_count-first.result) (drop c.digested_count-first.result c.records.result.now) in
    subst (λ (rs : List Record). (before after capacity : ℕ) → units_in rs ≤ units_of c.args.book.now x.client → after ≤ before + units_in rs → before + out_of c.args.book.now ≤ capacity → after + out_of c.follow.new.book ≤ capacity)
    (lent x y c.args.chunk.now.count c.records.result.now c.digested_count-first.result c.digested_count-end.result same c.records.ensures c.digested_count-first.ensures c.digested_count-end.ensures)
    (subst (λ (k : ℕ). (before after capacity : ℕ) → units_in its ≤ units_of c.args.book.now k → after ≤ before + units_in its → before + out_of c.args.book.now ≤ capacity → after + out_of c.follow.new.book ≤ capacity) client
    c.follow.ensures.law)
