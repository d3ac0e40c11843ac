-- Where a logical block lies, by the extent block that the slot of its inode names.
use Rattle.std.proofs.Common.{◌≡◌, ◌≢◌, ◌≤◌, ◌∙◌, ℕ, List, [], true, Option, Some, None, refl, sym, ap, subst, arith, inl, inr}
use Rattle.std.specs.Prelude.{Result, Ok, Err, IfOk, IfNone, IsSome, unwrap_or}
use Rattle.std.proofs.lemmas.Bool.{cases_Bool, cond-false, false≢true}
use Rattle.tier_device.specs.declared.media.Tier.{Tier}
use Rattle.tier_device.specs.declared.media.Tier.TheVariants.{Fast, Block, Slow}
use Rattle.batch_journal.specs.layout.declared.extents.Extent.{Extent}
use Rattle.batch_journal.specs.layout.declared.places.TheConstants.{FILE_BLOCKS}
use Rattle.batch_journal.specs.layout.declared.slot.Slot.{Slot}
use Rattle.batch_journal.specs.layout.Places.{Sizes, is_inode, is_node}
use Rattle.batch_journal.specs.layout.Slot.{slot_of, fits_slot}
use Rattle.batch_journal.specs.layout.Extents.{ExtentList, extents_of}
use Rattle.extent_tree.specs.Places.{place_of}
use Rattle.area_reader.specs.Store.{Store, slot, slot_bytes, slot_read, root_of, space_of, length_of, is_own, own_extents, extents_read, place}
use Rattle.area_reader.specs.Format.{IsSpelled}
use Rattle.area_reader.proofs.Lists.{bind_some, test_some, slot_here_fits, place_placed}
use Rattle.area_reader.proofs.Parts.{slot_as, extents_as}
use Rattle.area_reader.proofs.Shown.{slot_limits, extents_none, extents_some}

module _ (g : Sizes) (s : Store) (i : ℕ) (x : Slot) (read : slot_read g s i ≡ Some x) (t : Tier) where
  -- what has a slot is an inode
  number : is_inode i ≡ true
  unfolding slot_read
  number = elim (cases_Bool (is_inode i)) [
    | inl is ↦ is
    | inr other ↦ absurd (no_slot (sym (cond-false (is_inode i) (slot_of g (slot_bytes s i)) None other) ∙ read))
  ] where
    no_slot : None ≡ Some x → ⊥
    no_slot e = cc

  pub root_pooled : root_of x t ≢ 0 → is_node g (root_of x t) ≡ true
  root_pooled some = (slot_limits g x (subst (λ (y : Slot). fits_slot g y ≡ true) (slot_as g s i x read) (slot_here_fits g s i))).roots t some

  -- without an extent block no logical block has a place
  pub rootless : (k : ℕ) → root_of x t ≡ 0 → place g s i t k ≡ None
  rootless k zero = ap (λ (o : Option (List Extent)). place_of (unwrap_or o []) k) (extents_as g s i x t read ∙ extents_none g (s Fast) i x t zero)

  -- an extent block spells a list, which tells where each lies
  pub list_tells : IsSpelled g s → root_of x t ≢ 0 → (v : ExtentList) × (extents_of g (space_of x t) (s Fast (root_of x t)) ≡ Some v) × ((k : ℕ) → place g s i t k ≡ place_of v.extents k)
  unfolding own_extents
  list_tells spelled some = by (extents_read g s i t) refl ((spelled.inodes i number).extents t)
    where
      told : extents_read g s i t ≡ own_extents g (space_of x t) i (length_of x) (s Fast (root_of x t))
      told = extents_as g s i x t read ∙ extents_some g (s Fast) i x t some

      by : (o : Option (List Extent)) → extents_read g s i t ≡ o → IsSome o → (v : ExtentList) × (extents_of g (space_of x t) (s Fast (root_of x t)) ≡ Some v) × ((k : ℕ) → place g s i t k ≡ place_of v.extents k)
      by None is there = absurd (false≢true there)
      by (Some es) is there =
          let b = bind_some (extents_of g (space_of x t) (s Fast (root_of x t))) _ es (sym told ∙ is) in
          let own = test_some (is_own i (length_of x) b.0) b.0.extents es b.2 in
          (b.0, b.1, λ k. ap (λ (o : Option (List Extent)). place_of (unwrap_or o []) k) is ∙ ap (λ (l : List Extent). place_of l k) (sym own.1))

-- no inode has a logical block behind those of the greatest file
pub none_behind : (g : Sizes) (s : Store) (i : ℕ) (t : Tier) (k : ℕ) → FILE_BLOCKS ≤ k → place g s i t k ≡ None
none_behind g s i t k behind = by (place g s i t k) refl
  where
    by : (o : Option ℕ) → place g s i t k ≡ o → place g s i t k ≡ None
    by None is = is
    by (Some at) is =
        let within = (place_placed g s i t k at is).within in
        let few = (slot_limits g (slot g s i) (slot_here_fits g s i)).few in
        absurd (omega (arith, behind, within, few))

-- what neither a tier maps nor the tiers below it, no tier does
pub lower_none : {E : Type 0} (r : Result (Option (Tier × ℕ)) E) (lies : Tier → Option ℕ) → lies Fast ≡ None → IfOk r (λ found. IfNone found (lies Block ≡ None)) → IfOk r (λ found. IfNone found (lies Slow ≡ None)) → IfOk r (λ found. IfNone found ((t : Tier) → lies t ≡ None))
lower_none (Err e) lies fast block slow = tt
lower_none (Ok (Some x)) lies fast block slow = tt
lower_none (Ok None) lies fast block slow = each
  where
    each : (t : Tier) → lies t ≡ None
    each Fast = fast
    each Block = block
    each Slow = slow
