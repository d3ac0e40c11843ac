-- An inode of media that spell a graph.
use Rattle.std.specs.Prelude.{◌≡◌, ◌↔◌, ℕ, true, false, Option, Some, None, IsSome}
use Rattle.tier_device.specs.declared.media.Tier.{Tier}
use Rattle.area_reader.specs.layout.Places.{Sizes, is_inode}
use Rattle.record_validation.specs.declared.node_counts.NodeCounts.{NodeCounts}
use Rattle.record_validation.specs.declared.node_counts.NodeCounts.TheVariants as counts
use Rattle.area_reader.specs.layout.declared.slot.Slot.{Slot}
use Rattle.area_reader.specs.layout.declared.slot.Slot.TheVariants as slots
use Rattle.area_reader.specs.layout.Slot.{fits_slot}
use Rattle.area_reader.specs.declared.error.AreaError.{AreaError}
use Rattle.area_reader.specs.declared.inode.InodeParts.{InodeParts}
use Rattle.area_reader.specs.Store.{Store, slot_read, place}
use Rattle.area_reader.specs.Checks.{HasFound}
use Rattle.area_reader.specs.Damage.{OnDamage}

-- A device failed, or there was no memory: the refusal is for no damage, nor for too few blocks or a run that is not mapped.
abbrev pub IsNoDamage : AreaError → Type 0
IsNoDamage e = OnDamage e (λ _ _. ⊥)

-- That is the tier which maps a logical block of an inode; none where no tier does.
abbrev pub IsTierOf : Sizes → Store → ℕ → ℕ → Option Tier → Type 0
IsTierOf g s i k x = (t : Tier) → (x ≡ Some t) ↔ IsSome (place g s i t k)

-- These are slot and extents of inode i.
pub record HasParts (g : Sizes) (s : Store) (i : ℕ) (x : InodeParts) : Type 0 where
  pub number : is_inode i ≡ true
  pub slot : slot_read g s i ≡ Some x.slot
  pub fits : fits_slot g x.slot ≡ true
  pub extents : HasFound g s i x.extents

-- Slot and extents of inode i, or none where the number is no inode's.
abbrev pub FindsParts : Sizes → Store → ℕ → Option InodeParts → Type 0
FindsParts g s i None = is_inode i ≡ false
FindsParts g s i (Some x) = HasParts g s i x

-- the numbers of a node that a slot has
abbrev pub slot_counts : Slot → Option NodeCounts
slot_counts slots.Free = None
slot_counts (slots.File names size touch fast block slow) = Some (counts.File names size)
slot_counts (slots.Directory names entries touch root) = Some (counts.Directory names entries)
