use Rattle.std.proofs.Common.{◌∙◌, ◌++◌, [], ◌∷◌, append-nil, append_assoc, length, sym, ap, arith}
use Rattle.host_media.specs.Images.{media_bytes, content_bytes}
use Rattle.host_media.proofs.Images.{bytes_push, none_left}
use Rattle.host_media.proofs.image.image_of.Goals as goal

pub loop-one-preserved : goal.loop-one-preserved
loop-one-preserved g c =
    let i = c.loop-one.invariant in
    let done = c.loop-one.yielded in
    let one = c.in-Some.one in
    let next = c.in-Some.ensures.steps in
    let fewer = ap length next.0 in
    record {
      bytes = c.in_ok-push_medium.ensures.pushed ∙ ap (λ bs. bs ++ content_bytes (g.M.Media.seen one)) i.bytes ∙ sym (bytes_push g.M.Media.seen done one);
      split = append_assoc done (one ∷ []) c.next.new.self.rest.items ∙ ap (λ ms. done ++ ms) (sym next.0) ∙ i.split;
      long = omega (arith, next.1, fewer, i.long);
    }

pub returns : goal.returns
returns g c =
    let i = c.loop-one.invariant in
    let done = c.loop-one.yielded in
    i.bytes ∙ ap (media_bytes g.M.Media.seen) (sym (append-nil done) ∙ ap (λ ms. done ++ ms) (sym (none_left _ (sym i.long ∙ c.in-None.ensures.steps.0))) ∙ i.split)
