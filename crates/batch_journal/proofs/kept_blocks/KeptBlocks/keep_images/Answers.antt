use Rattle.std.proofs.Common.{◌≡◌, ◌∙◌, ◌-◌, ◌+◌, ◌*◌, ℕ, List, ◌∷◌, ap, sym, subst, arith, take, drop}
use Rattle.batch_journal.specs.Images.{image_count, target_at, image_at, images_from, images_of, with_images}
use Rattle.batch_journal.specs.Kept.{Shows}
use Rattle.batch_journal.proofs.Kept.{images_down, on_top, under_top}
use Rattle.batch_journal.proofs.kept_blocks.KeptBlocks.keep_images.Goals as goal

pub images-preserved : goal.images-preserved
images-preserved c = record {
  within = omega (arith, c.images.invariant.within);
  shown = λ g blocks shows.
      let q = c.images.place in
      let p = q - 1 in
      let n = c.args.count in
      let bytes = c.args.bytes.now in
      let rest = images_from bytes q (n - q) in
      let more = (target_at bytes p, image_at bytes p) ∷ rest in
      let down : images_from bytes p (n - p) ≡ more = images_down bytes p q n (omega (arith, c.images-test.true)) c.images.invariant.within in
      let size : 4096 * p + 4096 + 4096 - (4096 * p + 4096) ≡ 4096 = omega arith in
      let named = c.number_in.ensures in
      subst (λ (images : List (ℕ × List ℕ)). Shows g (with_images images blocks) c.keep.new.self.places.items) (sym down)
      (c.keep.ensures g (with_images rest blocks) (with_images more blocks) (c.images.invariant.shown g blocks shows)
      (ap (with_images more blocks) named ∙ on_top (target_at bytes p) (image_at bytes p) rest blocks ∙ ap (λ k. take k (drop (4096 * p + 4096) bytes)) (sym size))
      (λ k other. under_top (target_at bytes p) (image_at bytes p) rest blocks k (λ is. other (is ∙ sym named))));
}

pub returns : goal.returns
returns c g blocks shows =
    let bytes = c.args.bytes.now in
    let first : c.images.place ≡ 0 = omega (arith, c.images-test.false) in
    let whole : c.args.count - 0 ≡ image_count bytes = omega (arith, c.requires.count) in
    let all : images_from bytes c.images.place (c.args.count - c.images.place) ≡ images_of bytes = ap (λ p. images_from bytes p (c.args.count - p)) first ∙ ap (images_from bytes 0) whole in
    subst (λ (images : List (ℕ × List ℕ)). Shows g (with_images images blocks) c.images.self.places.items) all (c.images.invariant.shown g blocks shows)
