-- Of media that spell a graph nothing is damaged.
use Rattle.std.proofs.Common.{◌≡◌, ◌≢◌, ◌∙◌, ℕ, false, refl, sym, ap, subst, Option, Some, None}
use Rattle.std.specs.Prelude.{IsSome, IfSome, IfNone, Result, Ok, Err, IfErr, IsErrOf, unwrap_or}
use Rattle.std.proofs.lemmas.Bool.{cond-false, false≢true}
use Rattle.tier_device.specs.declared.media.Tier.{Tier}
use Rattle.area_reader.specs.layout.declared.slot.Slot.TheVariants as slots
use Rattle.area_reader.specs.layout.Places.{Sizes, is_inode}
use Rattle.area_reader.specs.layout.Slot.{slot_of}
use Rattle.area_reader.specs.declared.error.AreaError.{AreaError}
use Rattle.area_reader.specs.declared.error.AreaError.TheVariants as errors
use Rattle.area_reader.specs.Refusals.{IsChangeRefusal}
use Rattle.area_reader.specs.declared.inode.InodeParts.{InodeParts}
use Rattle.area_reader.specs.Store.{Store, slot_bytes, slot, slot_read, place}
use Rattle.area_reader.specs.Map.{place_by}
use Rattle.area_reader.specs.Format.{IsOpenable}
use Rattle.area_reader.specs.Damage.{OnDamage, IsDamaged}
use Rattle.area_reader.proofs.Damages.{damage_none, no_some}
use Rattle.area_reader.proofs.Complete.{root_inode, root_some}
use Rattle.area_reader.proofs.Tails.{place_is}
use Rattle.shared_area.specs.Parts.{IsNoDamage, IsTierOf, HasParts, FindsParts}

-- a refusal that could tell of damage tells of none
pub undamaged : (g : Sizes) (s : Store) (e : AreaError) (Going : Type 0) → (e ≢ errors.DeviceFault → Going) → (Going → IsOpenable g s) → OnDamage e (IsDamaged g s) → IsNoDamage e
undamaged g s errors.DeviceFault Going going opens damage = tt
undamaged g s (errors.Damaged w block) Going going opens damage =
    let is = opens (going (λ e. cc)) in
    damage_none g s w block damage is.spelled is.units
undamaged g s errors.NoBlock Going going opens damage = damage
undamaged g s errors.NotMapped Going going opens damage = damage
undamaged g s errors.Memory Going going opens damage = tt

pub only_fault : (e : AreaError) → IsNoDamage e → e ≢ errors.Memory → e ≡ errors.DeviceFault
only_fault errors.DeviceFault none other = refl
only_fault (errors.Damaged w block) none other = absurd none
only_fault errors.NoBlock none other = absurd none
only_fault errors.NotMapped none other = absurd none
only_fault errors.Memory none other = absurd (other refl)

-- a change that finds its blocks
pub found_change : (r : Result (Unit {0}) AreaError) → IfErr r IsChangeRefusal → (IsErrOf r errors.NoBlock → ⊥) → IfErr r IsNoDamage
found_change (Ok u) only never = tt
found_change (Err errors.DeviceFault) only never = tt
found_change (Err (errors.Damaged what block)) only never = only
found_change (Err errors.NoBlock) only never = never refl
found_change (Err errors.NotMapped) only never = only
found_change (Err errors.Memory) only never = tt

pub not_some : {A : Type 0} (x : A) → None ≡ Some x → ⊥
not_some x e = cc

module _ (g : Sizes) (s : Store) (i : ℕ) where
  -- a number that is no inode's has a free slot
  pub no_slot : is_inode i ≡ false → slot g s i ≡ slots.Free
  unfolding slot_read
  no_slot none = ap (λ o. unwrap_or o slots.Free) (cond-false (is_inode i) (slot_of g (slot_bytes s i)) None none)

  -- and no blocks
  pub no_place : is_inode i ≡ false → (t : Tier) (k : ℕ) → IsSome (place g s i t k) → ⊥
  no_place none t k is = false≢true (sym none ∙ root_inode g s i t (root_some g s i t k is))

  pub tier_none : is_inode i ≡ false → (k : ℕ) → IsTierOf g s i k None
  tier_none none k t = (λ e. absurd (not_some t e), λ is. absurd (no_place none t k is))

  module _ (x : InodeParts) (has : HasParts g s i x) (opens : IsOpenable g s) (k : ℕ) where
    pub tier_is : (t : Tier) → IsSome (place_by x.extents t k) → IsTierOf g s i k (Some t)
    tier_is t is u =
        let here : IsSome (place g s i t k) = subst IsSome (sym (place_is g s i x.extents has.extents t k)) is in
        (λ e. subst (λ (v : Tier). IsSome (place g s i v k)) (same_tier e) here, λ there. ap Some ((opens.spelled.inodes i has.number).once t u k here there))
      where
        same_tier : {v w : Tier} → Some v ≡ Some w → v ≡ w
        same_tier e = cc

    pub tier_unmapped : ((t : Tier) → place_by x.extents t k ≡ None) → IsTierOf g s i k None
    tier_unmapped none t = (λ e. absurd (not_some t e), λ is. absurd (no_some _ (place_is g s i x.extents has.extents t k ∙ none t) is))

    pub tier_of : (o : Option Tier) → IfSome o (λ t. IsSome (place_by x.extents t k)) → IfNone o ((t : Tier) → place_by x.extents t k ≡ None) → IsTierOf g s i k o
    tier_of None some none = tier_unmapped none
    tier_of (Some t) some none = tier_is t some

-- the parts of an inode, and none
pub parts_some : (g : Sizes) (s : Store) (i : ℕ) (o : Option InodeParts) (x : InodeParts) → o ≡ Some x → FindsParts g s i o → HasParts g s i x
parts_some g s i o x is finds = subst (FindsParts g s i) is finds

pub parts_none : (g : Sizes) (s : Store) (i : ℕ) (o : Option InodeParts) → o ≡ None → FindsParts g s i o → is_inode i ≡ false
parts_none g s i o is finds = subst (FindsParts g s i) is finds
