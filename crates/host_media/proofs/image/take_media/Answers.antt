use Rattle.std.proofs.Common.{◌≡◌, ◌∙◌, ◌++◌, [], ◌∷◌, All, map, take, sym, ap, subst, suc, ◌+◌, arith}
use Rattle.std.proofs.Math.Seq.{take-suc}
use Rattle.std.proofs.lemmas.List.{append_assoc, map-append}
use Rattle.std.proofs.lemmas.List.Elements.{All-push}
use Rattle.tier_device.specs.Memory.{IsAtRest, memory_seen}
use Rattle.host_media.specs.Images.{content_bytes, media_bytes, medium_sizes}
use Rattle.host_media.proofs.Images.{bytes_push}
use Rattle.host_media.proofs.image.take_media.Goals as goal

pub loop-one-preserved : goal.loop-one-preserved
loop-one-preserved c =
    let i = c.loop-one.invariant in
    let media = c.loop-one.media.items in
    let m = c.in_ok-take_medium.field-0 in
    let is = c.in_ok-push.ensures in
    let one_more : c.loop-one.one-index + 1 ≡ suc c.loop-one.one-index = omega arith in
    record {
      bytes =
          ap (λ ms. media_bytes memory_seen ms ++ c.take_medium.new.bytes.now) is
          ∙ ap (λ bs. bs ++ c.take_medium.new.bytes.now) (bytes_push memory_seen media m)
          ∙ append_assoc (media_bytes memory_seen media) (content_bytes (memory_seen m)) c.take_medium.new.bytes.now
          ∙ ap (λ bs. media_bytes memory_seen media ++ bs) c.in_ok-take_medium.ensures.bytes
          ∙ i.bytes;
      sizes =
          ap (map (medium_sizes memory_seen)) is
          ∙ map-append (medium_sizes memory_seen) media (m ∷ [])
          ∙ ap (λ xs. xs ++ medium_sizes memory_seen m ∷ []) i.sizes
          ∙ ap (λ x. take c.loop-one.one-index c.args.sizes.now ++ x ∷ []) c.in_ok-take_medium.ensures.sizes
          ∙ sym (take-suc c.args.sizes.now c.loop-one.one-index (record { fast = 0; block = 0; slow = 0 }) c.loop-one-test.true)
          ∙ ap (λ n. take n c.args.sizes.now) (sym one_more);
      rest = subst (All IsAtRest) (sym is) (All-push IsAtRest media m i.rest c.in_ok-take_medium.ensures.rest);
    }
