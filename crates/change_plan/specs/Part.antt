-- What is planned for one inode of a change: its part of the plan for all.
use Rattle.std.specs.Prelude.{◌≡◌, ◌⊎◌, ◌*◌, ◌==◌, ℕ, List, [], length, Bool, Option, Some, None, IsSome, true}
use Rattle.std.specs.List.{Contains}
use Rattle.tier_device.specs.declared.media.Tier.{Tier}
use Rattle.tier_device.specs.declared.media.Tier.TheVariants as tiers
use Rattle.inode_plan.specs.graph_change.Change.{Change}
use Rattle.inode_plan.specs.layout.declared.slot.Slot.{Slot}
use Rattle.inode_plan.specs.layout.declared.slot.Slot.TheVariants as slots
use Rattle.inode_plan.specs.layout.Places.{Sizes, is_node, is_data}
use Rattle.inode_plan.specs.batch_journal.Images.{image_for, with_images}
use Rattle.inode_plan.specs.extent_tree.Map.{TierRuns, runs_in}
use Rattle.inode_plan.specs.tree_blocks.After.{start_node}
use Rattle.inode_plan.specs.tree_blocks.Directory.{EntryBlocks}
use Rattle.inode_plan.specs.area_reader.Store.{Store, root_of, touch_of, place, inode}
use Rattle.inode_plan.specs.area_reader.Format.{used_block}
use Rattle.inode_plan.specs.area_commit.InodeRewrite.{IsFit, IsListed, block_by}
use Rattle.inode_plan.specs.area_commit.InodeChange.{IsFileWritten, IsDirectoryWritten}
use Rattle.inode_plan.specs.area_commit.Batches.{AreNodes}
use Rattle.inode_plan.specs.area_commit.DataWrite.{HoldData}
use Rattle.inode_plan.specs.area_commit.declared.plan.FreedBlocks.{FreedBlocks}
use Rattle.inode_plan.specs.area_commit.Plan.{HoldLost}
use Rattle.change_plan.specs.FileLayout.{IsLaid}

-- ---- its share of what was taken

-- Blocks that were taken, and are for some inodes: of the node pool, and data blocks of the tiers.
pub record Share : Type 0 where
  pub nodes : List ℕ
  pub «data» : List (Tier × ℕ)

-- The block is of this share.
abbrev pub IsIn : Share → Tier × ℕ → Type 0
IsIn share b = ((b.0 ≡ tiers.Fast) × Contains share.nodes b.1) ⊎ Contains share.«data» b

-- ---- as it stands in a store

-- In a store stands what is planned of inode i: its blocks of the node pool are as the images have them, the data blocks of its share hold the bytes, and each block in which its
-- data lay is as it was.
pub record IsPut (g : Sizes) (s : Store) (share : Share) (bytes : List ℕ) (images : List (ℕ × List ℕ)) (i : ℕ) (x : Slot) (m : TierRuns) (after : Store) : Type 0 where
  pub node_blocks : (t : Tier) (k : Option ℕ) (p : ℕ) → block_by x m t k ≡ Some (tiers.Fast, p) → is_node g p ≡ true → after tiers.Fast p ≡ with_images images (s tiers.Fast) p
  pub holds : HoldData after share.«data» bytes
  pub stays : (t : Tier) (k p : ℕ) → place g s i t k ≡ Some p → is_data g t p 1 ≡ true → after t p ≡ s t p

-- The node of inode i goes, or there is none: its slot is free, and it has no blocks.
pub record IsGoneFrom (g : Sizes) (c : Change) (s : Store) (i : ℕ) (x : Slot) (m : TierRuns) : Type 0 where
  pub none : (start_node c.base (inode g s i)).kind ≡ None
  pub slot_is : x ≡ slots.Free
  pub runs : (t : Tier) → runs_in m t ≡ []

-- Inode i is written for a change of it: as a file, as a directory, or as none.
abbrev pub IsWrittenFor : Sizes → Change → Store → Store → ℕ → Slot → TierRuns → Type 0
IsWrittenFor g c old new i x m = IsFileWritten g c old new i x m ⊎ ((before after : EntryBlocks) × IsDirectoryWritten g c before after old new i x m) ⊎ IsGoneFrom g c old i x m

-- The slot is free, or tells this number of the digest that wrote it.
abbrev pub IsTouchedBy : ℕ → Slot → Type 0
IsTouchedBy touch x = (x ≡ slots.Free) ⊎ (touch_of x ≡ touch)

-- ---- the part

-- whether it is this inode
abbrev pub is_one : ℕ → ℕ → Bool
is_one i j = j == i

-- The plan of inode i: its slot and runs keep the limits; each block that it has a use for then, it had for the same use, or it is of its share; each block of the share has one
-- use, and an image if it is of the node pool; images are put for its own blocks alone; what it gives up is what it loses; the blocks that its change writes are to lie
-- in the data blocks of the share, one each; and where all that stands, it is written for its change.
pub record IsPart (g : Sizes) (s : Store) (c : Change) (touch : ℕ) (i : ℕ) (x : Slot) (m : TierRuns) (share : Share) (bytes : List ℕ) (old new : List (ℕ × List ℕ)) (lost : FreedBlocks) : Type 0 where
  pub fit : IsFit g x m
  pub listed : (t : Tier) → IsListed (with_images new (s tiers.Fast)) i (root_of x t) (runs_in m t)
  pub uses : (t : Tier) (k : Option ℕ) (b : Tier × ℕ) → block_by x m t k ≡ Some b → (used_block g s (record { inode = i; tier = t; logical = k }) ≡ Some b) ⊎ IsIn share b
  pub once : (t u : Tier) (j k : Option ℕ) (b : Tier × ℕ) → IsIn share b → block_by x m t j ≡ Some b → block_by x m u k ≡ Some b → (t ≡ u) × (j ≡ k)
  pub all : (b : Tier × ℕ) → IsIn share b → (t : Tier) × (k : Option ℕ) × (block_by x m t k ≡ Some b)
  pub imaged : (p : ℕ) → Contains share.nodes p → IsSome (image_for p new)
  pub images : (p : ℕ) → ((t : Tier) (k : Option ℕ) → block_by x m t k ≡ Some (tiers.Fast, p) → ⊥) → image_for p new ≡ image_for p old
  pub nodes : AreNodes g old → AreNodes g new
  pub size : length bytes ≡ 4096 * length share.«data»
  pub given_up : HoldLost g (is_one i) s (λ _. x) (λ _. m) lost
  pub touched : IsTouchedBy touch x
  pub laid : IsLaid g s c i m share.«data»
  pub written : (after : Store) → IsPut g s share bytes new i x m after → IsWrittenFor g c s after i x m
