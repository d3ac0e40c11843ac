use Rattle.std.proofs.Common.{◌≡◌, ◌≤◌, ◌+◌, inl, inr, ℕ, List, [], length, ap, subst, arith}
use Rattle.std.specs.Prelude.{IsSome}
use Rattle.std.proofs.lemmas.Bool.{false≢true}
use Rattle.inode_plan.specs.layout.declared.slot.Slot.{Slot}
use Rattle.inode_plan.specs.batch_journal.Images.{image_for}
use Rattle.inode_plan.specs.area_reader.declared.tiers.InodeExtents.{InodeExtents}
use Rattle.inode_plan.specs.area_commit.Lists.{PutsLists}
use Rattle.relocation.specs.MovedFile.{HasImages}
use Rattle.relocation.proofs.images.images_of.Goals as goal

-- what is put where there was no image
has_images : (x : Slot) (lists : InodeExtents) (old new : List (ℕ × List ℕ)) → old ≡ [] → PutsLists x lists old new → length new ≤ length old + 3 → HasImages x lists new
has_images x lists old new empty puts few = record {
  each = puts.each;
  only = λ k some. elim (puts.only k some) [
    | inl was ↦ absurd (false≢true (subst (λ o. IsSome (image_for k o)) empty was))
    | inr put ↦ put
  ];
  few = omega (arith, few, ap length empty);
}

pub returns : goal.returns
returns c =
    has_images c.args.slot.now c.args.lists.now c.new-images.result c.put_lists.new.images c.new-images.ensures c.in_ok-put_lists.ensures.put c.in_ok-put_lists.ensures.few
