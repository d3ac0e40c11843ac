use Rattle.std.proofs.Common.{◌≡◌, ◌<◌, ◌≤◌, ◌+◌, ◌*◌, ℕ, List, [], ◌∷◌, ◌++◌, length, sym, ◌∙◌, ap, subst, arith}
use Rattle.byteorder.specs.Endian.{little_bytes}
use Rattle.tier_device.specs.Media.{overwritten}
use Rattle.batch_journal.specs.Images.{images_of, next_of}
use Rattle.batch_journal.specs.View.{IsBatch}
use Rattle.batch_journal.proofs.Images.{length-images_of}
use Rattle.batch_journal.proofs.Pushing.{b3, pushed_images, pushed_next, pushed_is}
use Rattle.batch_journal.proofs.batch.Batch.push.Goals as goal

pub note_image-requires-clause-few : goal.note_image-requires-clause-few
note_image-requires-clause-few c = omega (arith, c.requires.room, c.self.invariant.counts, length-images_of c.self.inside.bytes.items, ap length c.self.view_is)

pub returns-clause-pushed : goal.returns-clause-pushed
returns-clause-pushed c =
    let bytes = c.self.inside.bytes.items in
    let image = c.args.image.now in
    let n = c.self.inside.count in
    let number = c.args.number in
    let few : n < 1023 = omega (arith, c.requires.room, c.self.invariant.counts, length-images_of bytes, ap length c.self.view_is) in
    let is : c.note_image.new.bytes.items ≡ b3 bytes image n c.self.inside.next number c.self.invariant few c.ranges.number.fits c.requires.size =
    c.note_image.ensures ∙ ap (λ (l : List ℕ). overwritten (overwritten l (4 + 4 * n) (little_bytes 4 number)) 0 (little_bytes 4 (n + 1))) c.in_ok-extend_from_slice.ensures.items in
    ap images_of is ∙ pushed_images bytes image n c.self.inside.next number c.self.invariant few c.ranges.number.fits c.requires.size ∙ ap (λ (l : List (ℕ × List ℕ)). l ++ (number, image) ∷ []) c.self.view_is

pub returns-clause-next : goal.returns-clause-next
returns-clause-next c =
    let bytes = c.self.inside.bytes.items in
    let image = c.args.image.now in
    let n = c.self.inside.count in
    let number = c.args.number in
    let few : n < 1023 = omega (arith, c.requires.room, c.self.invariant.counts, length-images_of bytes, ap length c.self.view_is) in
    let is : c.note_image.new.bytes.items ≡ b3 bytes image n c.self.inside.next number c.self.invariant few c.ranges.number.fits c.requires.size =
    c.note_image.ensures ∙ ap (λ (l : List ℕ). overwritten (overwritten l (4 + 4 * n) (little_bytes 4 number)) 0 (little_bytes 4 (n + 1))) c.in_ok-extend_from_slice.ensures.items in
    ap (λ (l : List ℕ). next_of (images_of l)) is ∙ pushed_next bytes image n c.self.inside.next number c.self.invariant few c.ranges.number.fits c.requires.size

pub invariant_of-self-2 : goal.invariant_of-self-2
invariant_of-self-2 c =
    let bytes = c.self.inside.bytes.items in
    let image = c.args.image.now in
    let n = c.self.inside.count in
    let number = c.args.number in
    let few : n < 1023 = omega (arith, c.requires.room, c.self.invariant.counts, length-images_of bytes, ap length c.self.view_is) in
    let low : c.self.inside.next ≤ number = omega (arith, c.requires.rises, c.self.invariant.next_is, ap next_of c.self.view_is) in
    let is : c.note_image.new.bytes.items ≡ b3 bytes image n c.self.inside.next number c.self.invariant few c.ranges.number.fits c.requires.size =
    c.note_image.ensures ∙ ap (λ (l : List ℕ). overwritten (overwritten l (4 + 4 * n) (little_bytes 4 number)) 0 (little_bytes 4 (n + 1))) c.in_ok-extend_from_slice.ensures.items in
    subst (λ (l : List ℕ). IsBatch (n + 1) (number + 1) l) (sym is) (pushed_is bytes image n c.self.inside.next number c.self.invariant few c.ranges.number.fits c.requires.size low)
