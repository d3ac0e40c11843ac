-- An inode that is written anew: its slot, and in each tier a block that lists its runs.
use Rattle.std.specs.Prelude.{◌≡◌, ◌≢◌, ◌⊎◌, ◌==◌, true, ℕ, List, [], Option, Some, None, if◌then◌else◌}
use Rattle.std.specs.Option.{option_map}
use Rattle.tier_device.specs.declared.media.Tier.{Tier}
use Rattle.tier_device.specs.declared.media.Tier.TheVariants as tiers
use Rattle.area_reader.specs.layout.declared.slot.Slot.{Slot}
use Rattle.area_reader.specs.layout.declared.extents.Extent.{Extent}
use Rattle.area_reader.specs.layout.Places.{Sizes}
use Rattle.area_reader.specs.layout.Slot.{fits_slot, slot_spelling}
use Rattle.area_reader.specs.layout.Extents.{ExtentList, extents_spelling}
use Rattle.area_reader.specs.batch_journal.Blocks.{Blocks}
use Rattle.area_reader.specs.extent_tree.Normal.{IsNormal}
use Rattle.area_reader.specs.extent_tree.BlockFormat.{LiesWithin, IsOneToOne}
use Rattle.area_reader.specs.extent_tree.Map.{TierRuns, runs_in, lies_at, LieOnce, LieBelow}
use Rattle.area_reader.specs.Store.{Store, slot_bytes, root_of, space_of, length_of, at_or}

-- the runs of an inode, as a block lists them
abbrev pub list_of : ℕ → List Extent → ExtentList
list_of i runs = record { owner = i; level = 0; extents = runs }

-- There is neither a block nor runs, or the block lists the runs.
abbrev pub IsListed : Blocks → ℕ → ℕ → List Extent → Type 0
IsListed fast i root runs = ((root ≡ 0) × (runs ≡ [])) ⊎ ((root ≢ 0) × (fast root ≡ extents_spelling (list_of i runs)))

-- The bytes of an inode's slot are this one's, and the blocks that it names list these runs.
pub record IsWritten (s : Store) (i : ℕ) (x : Slot) (m : TierRuns) : Type 0 where
  pub slot_is : slot_bytes s i ≡ slot_spelling x
  pub lists : (t : Tier) → IsListed (s tiers.Fast) i (root_of x t) (runs_in m t)

-- Slot and runs keep the limits of the format: each logical block is below the length and lies where the content may, in a place of its own and in one tier alone.
pub record IsFit (g : Sizes) (x : Slot) (m : TierRuns) : Type 0 where
  pub limits : fits_slot g x ≡ true
  pub normal : (t : Tier) → IsNormal (runs_in m t)
  pub below : LieBelow (length_of x) m
  pub within : (t : Tier) → LiesWithin g (space_of x t) (runs_in m t)
  pub apart : (t : Tier) → IsOneToOne (runs_in m t)
  pub once : LieOnce m

-- ---- what is read then

-- a logical block, in the tier where it lies; one that lies nowhere has no bytes, which reads as zeros
abbrev pub logical_by : Store → TierRuns → Blocks
logical_by s m k = at_or (s tiers.Fast) (lies_at m tiers.Fast k) (at_or (s tiers.Block) (lies_at m tiers.Block k) (at_or (s tiers.Slow) (lies_at m tiers.Slow k) []))

-- the block that lists the runs of a tier, or the one that holds a logical block
abbrev pub block_by : Slot → TierRuns → Tier → Option ℕ → Option (Tier × ℕ)
block_by x m t None = if root_of x t == 0 then None else Some (tiers.Fast, root_of x t)
block_by x m t (Some k) = option_map (λ p. (t, p)) (lies_at m t k)
