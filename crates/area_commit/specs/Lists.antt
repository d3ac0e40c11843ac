-- The images of an inode's extent blocks.
use Rattle.std.specs.Prelude.{◌≡◌, ◌≢◌, ◌⊎◌, ℕ, List, Option, None, Some, IsSome}
use Rattle.tier_device.specs.declared.media.Tier.{Tier}
use Rattle.area_reader.specs.layout.declared.slot.Slot.{Slot}
use Rattle.area_reader.specs.layout.Extents.{ExtentList, extents_spelling}
use Rattle.area_reader.specs.batch_journal.Images.{image_for}
use Rattle.area_reader.specs.Store.{root_of}
use Rattle.area_reader.specs.Map.{in_tier}
use Rattle.area_reader.specs.declared.tiers.InodeExtents.{InodeExtents}
use Rattle.area_commit.specs.Batches.{PutsImage}

-- The image of some extents is put, if there are any.
abbrev pub PutsList : ℕ → Option ExtentList → List (ℕ × List ℕ) → List (ℕ × List ℕ) → Type 0
PutsList root None old new = new ≡ old
PutsList root (Some v) old new = PutsImage root (extents_spelling v) old new

-- No two tiers that have extents have them in one block.
abbrev pub HaveOwnRoots : Slot → InodeExtents → Type 0
HaveOwnRoots x lists = (t u : Tier) → IsSome (in_tier lists t) → IsSome (in_tier lists u) → root_of x t ≡ root_of x u → t ≡ u

-- Each tier's extents have their image, for the block that the slot names, where no two of them name one block. The image of any other block is as it was, and no other
-- block has one.
pub record PutsLists (x : Slot) (lists : InodeExtents) (old new : List (ℕ × List ℕ)) : Type 0 where
  pub each : HaveOwnRoots x lists → (t : Tier) (v : ExtentList) → in_tier lists t ≡ Some v → image_for (root_of x t) new ≡ Some (extents_spelling v)
  pub others : (k : ℕ) → ((t : Tier) → IsSome (in_tier lists t) → root_of x t ≢ k) → image_for k new ≡ image_for k old
  pub only : (k : ℕ) → IsSome (image_for k new) → IsSome (image_for k old) ⊎ ((t : Tier) × IsSome (in_tier lists t) × (root_of x t ≡ k))
