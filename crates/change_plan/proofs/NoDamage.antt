-- What is read of an inode of a store that spells a graph is not damaged.
use Rattle.std.proofs.Common.{◌≡◌, ◌⊎◌, ◌∙◌, inl, inr, ℕ, Some, None, refl, ap, subst}
use Rattle.std.specs.Prelude.{IsSome}
use Rattle.std.proofs.lemmas.Bool.{false≢true}
use Rattle.tier_device.specs.declared.media.Tier.{Tier}
use Rattle.tier_device.specs.declared.media.Tier.TheVariants as tiers
use Rattle.inode_plan.specs.layout.Places.{Sizes, slot_block}
use Rattle.inode_plan.specs.layout.declared.slot.Slot.{Slot}
use Rattle.inode_plan.specs.area_reader.Damage.{OnDamage}
use Rattle.inode_plan.specs.area_reader.Map.{HasNoExtents}
use Rattle.inode_plan.specs.area_reader.Format.{SpellsInode}
use Rattle.inode_plan.specs.area_reader.Store.{Store, slot_read, extents_read, extents_by}
use Rattle.inode_plan.specs.area_reader.declared.error.AreaError.{AreaError}
use Rattle.inode_plan.specs.area_reader.declared.error.AreaError.TheVariants as errors
use Rattle.inode_plan.specs.layout.declared.error.What.TheVariants as what
use Rattle.inode_plan.proofs.area_reader_lemmas.Parts.{slot_as}

extents_here : (g : Sizes) (s : Store) (i : ℕ) (x : Slot) (t : Tier) → slot_read g s i ≡ Some x → extents_read g s i t ≡ extents_by g (s tiers.Fast) i x t
unfolding extents_read
extents_here g s i x t is = ap (λ (y : Slot). extents_by g (s tiers.Fast) i y t) (slot_as g s i x is)

pub no_damage : (g : Sizes) (s : Store) (i : ℕ) (x : Slot) (e : AreaError) → slot_read g s i ≡ Some x → SpellsInode g s i → OnDamage e (HasNoExtents g (s tiers.Fast) i x) → (e ≡ errors.DeviceFault) ⊎ (e ≡ errors.Memory)
no_damage g s i x errors.DeviceFault is spells damage = inl refl
no_damage g s i x (errors.Damaged w block) is spells damage = absurd (false≢true (subst IsSome (extents_here g s i x damage.tier is ∙ damage.none) (spells.extents damage.tier)))
no_damage g s i x errors.NoBlock is spells damage = absurd damage
no_damage g s i x errors.NotMapped is spells damage = absurd damage
no_damage g s i x errors.Memory is spells damage = inr refl

-- nor is its slot
pub slot_is_whole : (g : Sizes) (s : Store) (i : ℕ) (e : AreaError) → IsSome (slot_read g s i) → OnDamage e (λ w block. (w ≡ what.Slot) × (block ≡ slot_block i) × (slot_read g s i ≡ None)) → (e ≡ errors.DeviceFault) ⊎ (e ≡ errors.Memory)
slot_is_whole g s i errors.DeviceFault some damage = inl refl
slot_is_whole g s i (errors.Damaged w block) some damage = absurd (false≢true (subst IsSome damage.2 some))
slot_is_whole g s i errors.NoBlock some damage = absurd damage
slot_is_whole g s i errors.NotMapped some damage = absurd damage
slot_is_whole g s i errors.Memory some damage = inr refl
