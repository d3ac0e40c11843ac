use Rattle.std.proofs.Common.{◌≡◌, ℕ, List, sym, ◌∙◌, ap, subst}
use Rattle.std.proofs.lemmas.Bool.{false≢true}
use Rattle.batch_journal.specs.Images.{images_of, Rises}
use Rattle.batch_journal.specs.Blocks.{AreJournaled}
use Rattle.batch_journal.specs.Volume.{KeepsGeometry}
use Rattle.batch_journal.proofs.Images.{rising_journaled, rises_rising}
use Rattle.batch_journal.proofs.batch.Batch.suits.Goals as goal

pub returns-then-is_rising : goal.returns-then-is_rising
returns-then-is_rising c =
    let g = c.args.geometry.now in
    let images : images_of c.deref.result.now ≡ c.args.self.now = ap images_of c.deref.ensures.value ∙ c.self.view_is in
    let again : images_of c.deref-then-is_rising.result.now ≡ c.args.self.now = ap images_of c.deref-then-is_rising.ensures.value ∙ c.self.view_is in
    let places = subst (λ (is : List (ℕ × List ℕ)). AreJournaled g is) images (rising_journaled g 0 (images_of c.deref.result.now) (c.is_rising.ensures.0 c.if-is_rising.true)) in (
      λ t. (places, subst (λ (is : List (ℕ × List ℕ)). KeepsGeometry g is) again (c.keeps_geometry.ensures.0 t)),
      λ both. c.keeps_geometry.ensures.1 (subst (λ (is : List (ℕ × List ℕ)). KeepsGeometry g is) (sym again) both.1),
    )

pub returns-else-is_rising : goal.returns-else-is_rising
returns-else-is_rising c =
    let g = c.args.geometry.now in
    let images : images_of c.deref.result.now ≡ c.args.self.now = ap images_of c.deref.ensures.value ∙ c.self.view_is in
    let rises = subst (λ (b : List ℕ). Rises 0 (images_of b)) (sym c.deref.ensures.value) c.self.invariant.rises in (
      λ t. absurd (false≢true (sym c.if-is_rising.false ∙ t)),
      λ both. c.is_rising.ensures.1 (rises_rising g 0 (images_of c.deref.result.now) rises (subst (λ (is : List (ℕ × List ℕ)). AreJournaled g is) (sym images) both.0)),
    )
