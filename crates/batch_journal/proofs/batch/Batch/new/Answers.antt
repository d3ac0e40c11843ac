use Rattle.std.proofs.Common.{◌≡◌, ℕ, List, [], length, sym, ◌∙◌, ap, subst, arith}
use Rattle.std.proofs.lemmas.List.{length-replicate}
use Rattle.batch_journal.specs.Images.{images_of, images_from, next_of, Rises}
use Rattle.batch_journal.proofs.Pushing.{zeros_count, zeros_rest}
use Rattle.batch_journal.proofs.batch.Batch.new.Goals as goal

pub returns : goal.returns
returns c = ap (images_from c.in_ok-bytes.bytes.items 0) (zeros_count 4096 c.in_ok-bytes.bytes.items c.in_ok-bytes.ensures)

pub invariant_of-result : goal.invariant_of-result
invariant_of-result c =
    let items = c.in_ok-bytes.bytes.items in
    let no_image : images_of items ≡ [] = ap (images_from items 0) (zeros_count 4096 items c.in_ok-bytes.ensures) in
    record {
      counts = sym (zeros_count 4096 items c.in_ok-bytes.ensures);
      long = sym (ap length c.in_ok-bytes.ensures ∙ length-replicate {A = ℕ} 4096 0);
      few = omega arith;
      rises = subst (λ (is : List (ℕ × List ℕ)). Rises 0 is) (sym no_image) tt;
      next_is = sym (ap next_of no_image);
      rest = zeros_rest 4096 items c.in_ok-bytes.ensures;
    }
