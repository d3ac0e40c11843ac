use Rattle.std.proofs.Common.{◌≡◌, ℕ, List, length, sym, ◌∙◌, ap, subst}
use Rattle.batch_journal.specs.Images.{next_of}
use Rattle.batch_journal.specs.View.{IsBatch}
use Rattle.batch_journal.proofs.Images.{length-images_of}
use Rattle.batch_journal.proofs.batch.Batch.as_bytes.Goals as goal

pub returns-clause-head : goal.returns-clause-head
returns-clause-head c =
    let s = c.self.inside in
    let count : s.count ≡ length c.args.self.now = c.self.invariant.counts ∙ sym (length-images_of s.bytes.items) ∙ ap length c.self.view_is in
    let next : s.next ≡ next_of c.args.self.now = c.self.invariant.next_is ∙ ap next_of c.self.view_is in
    subst (λ (b : List ℕ). IsBatch (length c.args.self.now) (next_of c.args.self.now) b) (sym c.deref.ensures.value)
    (subst (λ k. IsBatch k (next_of c.args.self.now) s.bytes.items) count (subst (λ k. IsBatch s.count k s.bytes.items) next c.self.invariant))
