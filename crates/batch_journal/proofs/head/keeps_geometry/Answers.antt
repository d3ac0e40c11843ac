use Rattle.std.proofs.Common.{◌≡◌, ◌≢◌, ◌⊎◌, inl, inr, ℕ, List, Option, Some, None, IfSome, refl, sym, ◌∙◌, subst, arith}
use Rattle.batch_journal.specs.Images.{image_count, target_at, image_at, images_of, image_for}
use Rattle.batch_journal.specs.Volume.{Spells}
use Rattle.batch_journal.proofs.Images.{first_for_0, none_for_0}
use Rattle.batch_journal.proofs.head.keeps_geometry.Goals as goal
use Rattle.batch_journal.proofs.head.keeps_geometry.Goals.{then-count-eq0-via-then-count-eq0, then-count-eq0-via-else-count-eq0+then-number_in-ne0}

pub returns-then-count-eq0 : goal.returns-then-count-eq0
returns-then-count-eq0 c =
    let bytes = c.args.bytes.now in
    let either : (image_count bytes ≡ 0) ⊎ (target_at bytes 0 ≢ 0) = elim c.then-count-eq0.branch [
      | then-count-eq0-via-then-count-eq0 w ↦ inl (omega (arith, c.requires.count, w.if-count-eq0.true))
      | then-count-eq0-via-else-count-eq0+then-number_in-ne0 w ↦ inr (λ is. w.if-number_in-ne0.true (w.number_in.ensures ∙ is))
    ] in
    let none : image_for 0 (images_of bytes) ≡ None = none_for_0 bytes (image_count bytes) c.requires.rises either in
    (λ t. subst (λ (o : Option (List ℕ)). IfSome o (Spells c.args.geometry.now)) (sym none) tt, λ keeps. refl)

pub returns : goal.returns
returns c =
    let bytes = c.args.bytes.now in
    let is : target_at bytes 0 ≡ 0 = omega (arith, c.number_in.ensures, c.if-number_in-ne0.false) in
    let first : image_for 0 (images_of bytes) ≡ Some (image_at bytes 0) = first_for_0 bytes (image_count bytes) (omega (arith, c.requires.count, c.if-count-eq0.false)) is in (
      λ t. subst (λ (o : Option (List ℕ)). IfSome o (Spells c.args.geometry.now)) (sym first) (c.spells.ensures.0 t),
      λ keeps. c.spells.ensures.1 (subst (λ (o : Option (List ℕ)). IfSome o (Spells c.args.geometry.now)) first keeps),
    )
