-- Where an inode has a block, what its extents spell wants memory.
use Rattle.std.proofs.Common.{◌≡◌, ◌≢◌, ◌<◌, ◌∙◌, ℕ, [], true, ap, subst, Option, Some, None, inl, inr}
use Rattle.std.specs.Prelude.{unwrap_or}
use Rattle.tier_device.specs.declared.media.Tier.{Tier}
use Rattle.tier_device.specs.declared.media.Tier.TheVariants.{Fast}
use Rattle.area_reader.specs.layout.declared.slot.Slot.{Slot}
use Rattle.area_reader.specs.layout.declared.slot.Slot.TheVariants as slots
use Rattle.area_reader.specs.layout.Places.{Sizes, is_inode}
use Rattle.area_reader.specs.layout.Extents.{extents_of}
use Rattle.area_reader.specs.extent_tree.Places.{place_of}
use Rattle.area_reader.specs.tree_blocks.Inode.{IsConsistent, AreDirectoryBlocks, IsDirectoryBlock, blocks_for, inode_of}
use Rattle.area_reader.specs.Store.{Store, slot_read, root_of, space_of, length_of, extents_by, extents_read, place, logical_block}
use Rattle.area_reader.specs.Format.{SpellsInode}
use Rattle.area_reader.specs.Map.{WantsMemory}
use Rattle.area_reader.proofs.Parts.{slot_as}
use Rattle.area_reader.proofs.Shown.{own_none, extents_some}
use Rattle.area_reader.proofs.Inodes.{is_entries}
use Rattle.area_reader.proofs.Complete.{root_some}
use Rattle.area_reader.proofs.Damages.{option_cases, is_some_at, none_read, no_entries}

not_both : {A : Type 0} (x : A) (o : Option A) → o ≡ Some x → o ≡ None → ⊥
not_both x o is none = cc

module _ (g : Sizes) (s : Store) (i : ℕ) (x : Slot) (read : slot_read g s i ≡ Some x) where
  extents_are : (t : Tier) → extents_read g s i t ≡ extents_by g (s Fast) i x t
  unfolding extents_read
  extents_are t = ap (λ y. extents_by g (s Fast) i y t) (slot_as g s i x read)

  no_extents : (t : Tier) → root_of x t ≢ 0 → extents_of g (space_of x t) (s Fast (root_of x t)) ≡ None → extents_read g s i t ≡ None
  no_extents t some none = extents_are t ∙ extents_some g (s Fast) i x t some ∙ own_none g (space_of x t) i (length_of x) (s Fast (root_of x t)) none

  pub place_wants : (t : Tier) (k p : ℕ) → place g s i t k ≡ Some p → WantsMemory g s i
  place_wants t k p is =
      let some : root_of x t ≢ 0 = λ e. root_some g s i t k (is_some_at (place g s i t k) p is) (ap (λ y. root_of y t) (slot_as g s i x read) ∙ e) in
      record {
        inode = x;
        slot_is = read;
        some = (
          t,
          record {
            some = some;
            list = elim (option_cases (extents_of g (space_of x t) (s Fast (root_of x t)))) [
              | inl (v, there) ↦ is_some_at (extents_of g (space_of x t) (s Fast (root_of x t))) v there
              | inr none ↦ absurd (not_both p (place g s i t k) is (ap (λ o. place_of (unwrap_or o []) k) (no_extents t some none)))
            ];
          },
        );
      }

-- a directory that has entries
module _ (g : Sizes) (s : Store) (i names entries touch root : ℕ) (number : is_inode i ≡ true) (read : slot_read g s i ≡ Some (slots.Directory names entries touch root)) (spells : SpellsInode g s i) where
  directory : AreDirectoryBlocks i entries (logical_block g s i)
  directory = subst (λ (y : Slot). IsConsistent i (inode_of y (logical_block g s i))) (slot_as g s i (slots.Directory names entries touch root) read) spells.consistent

  pub directory_wants : 0 < blocks_for entries → WantsMemory g s i
  directory_wants some = elim (option_cases (place g s i Fast 0)) [
    | inl (p, there) ↦ place_wants g s i (slots.Directory names entries touch root) read Fast 0 p there
    | inr none ↦ absurd (no_entries i entries 0 number (subst (IsDirectoryBlock i entries 0) (none_read g s i 0 (is_entries g s i names entries touch root number read).kind_is none) (directory.parts 0 some)))
  ]
