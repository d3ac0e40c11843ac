-- The first run of a file's blocks, by its slot and its extents.
use Rattle.std.proofs.Common.{◌≡◌, ◌≢◌, ◌⊎◌, inl, inr, ◌<◌, ◌∙◌, ℕ, Bool, true, false, refl, sym, ap, subst, Option, Some, None}
use Rattle.std.specs.Prelude.{◌==◌, if◌then◌else◌, IsSome, is_some}
use Rattle.tier_device.specs.declared.media.Tier.{Tier}
use Rattle.area_reader.specs.layout.declared.slot.Slot.{Slot}
use Rattle.area_reader.specs.layout.declared.slot.Slot.TheVariants as slots
use Rattle.area_reader.specs.layout.Places.{Sizes, is_inode}
use Rattle.block_alloc.specs.declared.runs.Run.{Run}
use Rattle.area_reader.specs.Store.{Store, place, slot, slot_read, root_of, touch_of, length_of}
use Rattle.area_reader.specs.Map.{place_by, IsOnceAt}
use Rattle.area_reader.specs.Format.{IsOpenable}
use Rattle.area_reader.specs.declared.tiers.InodeExtents.{InodeExtents}
use Rattle.area_reader.specs.declared.inode.InodeParts.{InodeParts}
use Rattle.area_reader.proofs.Complete.{root_some}
use Rattle.area_reader.proofs.Parts.{slot_as}
use Rattle.area_reader.proofs.Tails.{place_is, placed_by}
use Rattle.shared_area.specs.Parts.{HasParts}
use Rattle.shared_area.specs.FirstRun.{FindsRun, file_place, file_lies, touch_in}
use Rattle.shared_area.proofs.Sound.{no_slot}

none_from : (o : Option ℕ) → (IsSome o → ⊥) → o ≡ None
none_from None f = refl
none_from (Some x) f = absurd (f refl)

some_from : (o : Option ℕ) → IsSome o → (x : ℕ) × (o ≡ Some x)
some_from None is = cc
some_from (Some x) is = (x, refl)

-- what another tier maps, this one does not
pub none_of_other : (x : InodeExtents) (k p : ℕ) (t u : Tier) → IsOnceAt x k → place_by x u k ≡ Some p → u ≢ t → place_by x t k ≡ None
none_of_other x k p t u once there other = none_from (place_by x t k) (λ here. other (once u t (ap (λ (o : Option ℕ). is_some o) there) here))

module _ (g : Sizes) (s : Store) (i : ℕ) (x : InodeParts) (has : HasParts g s i x) where
  is_place : (t : Tier) (k : ℕ) → place g s i t k ≡ place_by x.extents t k
  is_place t k = place_is g s i x.extents has.extents t k

  pub parts_once : IsOpenable g s → (k : ℕ) → IsOnceAt x.extents k
  parts_once opens k t u here there = (opens.spelled.inodes i has.number).once t u k (subst (λ (o : Option ℕ). IsSome o) (sym (is_place t k)) here) (subst (λ (o : Option ℕ). IsSome o) (sym (is_place u k)) there)

  pub parts_within : (t : Tier) (k : ℕ) → IsSome (place_by x.extents t k) → k < length_of x.slot
  parts_within t k is =
      let p = some_from (place_by x.extents t k) is in
      subst (λ (y : Slot). k < length_of y) (slot_as g s i x.slot has.slot) (placed_by g s i x.extents has.extents t k p.0 p.1).within

  -- the first run of what the parts map is that of the file
  pub run_is : (t : Tier) (most : ℕ) (r : Option Run) → ((o : Option ℕ) → file_place x.slot o ≡ o) → FindsRun (place_by x.extents t) most r → FindsRun (file_lies g s i t) most r
  run_is t most r file found =
      let same : (k : ℕ) → place_by x.extents t k ≡ file_lies g s i t k = λ k. sym (ap (λ (y : Slot). file_place y (place g s i t k)) (slot_as g s i x.slot has.slot) ∙ file (place g s i t k) ∙ is_place t k) in
      subst (λ (f : ℕ → Option ℕ). FindsRun f most r) (λ j k. same k j) found

  -- where there is no file none lies anywhere
  pub none_lie : (t : Tier) → ((o : Option ℕ) → file_place x.slot o ≡ None) → (k : ℕ) → file_lies g s i t k ≡ None
  none_lie t file k = ap (λ (y : Slot). file_place y (place g s i t k)) (slot_as g s i x.slot has.slot) ∙ file (place g s i t k)

pub no_inode_lies : (g : Sizes) (s : Store) (i : ℕ) (t : Tier) → is_inode i ≡ false → (k : ℕ) → file_lies g s i t k ≡ None
no_inode_lies g s i t none k = ap (λ (y : Slot). file_place y (place g s i t k)) (no_slot g s i none)

none_placed : (x : Slot) → file_place x None ≡ None
none_placed slots.Free = refl
none_placed (slots.File names size touch fast block slow) = refl
none_placed (slots.Directory names entries touch root) = refl

-- where a slot has no extent block of a tier, or is no file's, no block of a file lies there
pub no_root_lies : (g : Sizes) (s : Store) (i : ℕ) (t : Tier) (x : Slot) → slot_read g s i ≡ Some x → (root_of x t ≡ 0) ⊎ ((at : Option ℕ) → file_place x at ≡ None) → (k : ℕ) → file_lies g s i t k ≡ None
no_root_lies g s i t x is (inl none) k = ap (λ (o : Option ℕ). file_place (slot g s i) o) (none_from (place g s i t k) (λ there. root_some g s i t k there (ap (λ (y : Slot). root_of y t) (slot_as g s i x is) ∙ none))) ∙ none_placed (slot g s i)
no_root_lies g s i t x is (inr file) k = ap (λ (y : Slot). file_place y (place g s i t k)) (slot_as g s i x is) ∙ file (place g s i t k)

some_if : (b : Bool) (touch n : ℕ) → (if b then None else Some touch) ≡ Some n → n ≡ touch
some_if true touch n is = absurd (cc)
some_if false touch n is = cc

-- the number that a slot has for a tier is its own
pub own_touch : (x : Slot) (t : Tier) (n : ℕ) → touch_in x t ≡ Some n → n ≡ touch_of x
own_touch slots.Free t n is = absurd (cc)
own_touch (slots.File names size touch fast block slow) t n is = some_if (root_of (slots.File names size touch fast block slow) t == 0) touch n is
own_touch (slots.Directory names entries touch root) t n is = absurd (cc)
