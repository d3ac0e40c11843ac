-- What is to be written of some inodes, and in which blocks.
use Rattle.std.specs.Prelude.{◌≡◌, ◌≤◌, ◌<◌, ◌+◌, ◌*◌, ◌==◌, ◌↔◌, ◌⊎◌, min, ℕ, Bool, true, List, [], ◌∷◌, length, Option, Some, IsSome, IfSome}
use Rattle.std.specs.List.{Contains, list_any}
use Rattle.posix_calls.specs.declared.limits.TheConstants.{MAX_INODE}
use Rattle.tier_device.specs.declared.media.Tier.{Tier}
use Rattle.tier_device.specs.declared.media.Tier.TheVariants as tiers
use Rattle.area_reader.specs.layout.declared.slot.Slot.{Slot}
use Rattle.area_reader.specs.layout.Marks.{fits_marks}
use Rattle.area_reader.specs.layout.Places.{Sizes, node_end, data_first}
use Rattle.block_alloc.specs.declared.runs.Run.{Run}
use Rattle.block_alloc.specs.Runs.{Apart, blocks_of}
use Rattle.area_reader.specs.batch_journal.Images.{image_for, with_images}
use Rattle.area_reader.specs.extent_tree.Map.{TierRuns, runs_in}
use Rattle.area_reader.specs.Store.{Store, root_of}
use Rattle.area_reader.specs.Reads.{Free}
use Rattle.area_reader.specs.Format.{Use, used_block}
use Rattle.area_commit.specs.InodeRewrite.{IsFit, IsListed, block_by}
use Rattle.area_commit.specs.StoreRewrite.{HasBlockFor}
use Rattle.area_commit.specs.declared.slots.ChangedSlot.{ChangedSlot}
use Rattle.area_commit.specs.Slots.{RiseIn}
use Rattle.area_commit.specs.Batches.{AreNodes}
use Rattle.area_commit.specs.declared.allocation.Allocation.{Allocation}
use Rattle.area_commit.specs.Allocations.{taken_data, runs_of}
use Rattle.area_commit.specs.DataWrite.{AreFreeIn, RunsAreNormal}
use Rattle.area_commit.specs.BlockExchange.{BlockIsTaken}
use Rattle.area_commit.specs.declared.plan.FreedBlocks.{FreedBlocks}
use Rattle.area_commit.specs.declared.plan.Rewrite.{Rewrite}

-- ---- one inode

-- Slot and runs of inode i keep the limits; each block that lists its runs has an image that does, or stays as it is; and each block that it has a use for then, it had for
-- the same use, or it was taken.
pub record IsPlannedInode (g : Sizes) (s : Store) (taken : Allocation) (nodes : List (ℕ × List ℕ)) (i : ℕ) (x : Slot) (m : TierRuns) : Type 0 where
  pub fit : IsFit g x m
  pub listed : (t : Tier) → IsListed (with_images nodes (s tiers.Fast)) i (root_of x t) (runs_in m t)
  pub uses : (t : Tier) (k : Option ℕ) (b : Tier × ℕ) → block_by x m t k ≡ Some b → (used_block g s (record { inode = i; tier = t; logical = k }) ≡ Some b) ⊎ BlockIsTaken taken b.0 b.1

-- Inode i had some use for a block, for which it has another one then, or none.
pub record Loses (g : Sizes) (s : Store) (i : ℕ) (x : Slot) (m : TierRuns) (t : Tier) (k : ℕ) : Type 0 where
  pub tier : Tier
  pub logical : Option ℕ
  pub was : used_block g s (record { inode = i; tier = tier; logical = logical }) ≡ Some (t, k)
  pub none : block_by x m tier logical ≡ Some (t, k) → ⊥

-- ---- the blocks of all

-- The blocks that were taken were free: in the node pool, and in runs that rise among each tier's data blocks.
pub record WereFree (g : Sizes) (s : Store) (taken : Allocation) : Type 0 where
  pub nodes : (k : ℕ) → Contains (blocks_of taken.nodes.items) k → Free g s tiers.Fast k × (k < node_end g)
  pub per_tier : (t : Tier) → AreFreeIn g s t (runs_of taken t)
  pub apart : RunsAreNormal g taken

-- the runs of a tier's data blocks that are given up
abbrev pub lost_in : FreedBlocks → Tier → List Run
lost_in lost tiers.Fast = lost.fast.items
lost_in lost tiers.Block = lost.block.items
lost_in lost tiers.Slow = lost.slow.items

-- Each of the runs has a block or more, and no block is of two of them.
abbrev pub LieApart : List Run → Type 0
LieApart [] = Unit {0}
LieApart (r ∷ rs) = (0 < r.count) × Apart r (blocks_of rs) × LieApart rs

-- One of the inodes that are rewritten loses a block.
abbrev pub IsLost : Sizes → (ℕ → Bool) → Store → (ℕ → Slot) → (ℕ → TierRuns) → Tier → ℕ → Type 0
IsLost g rewritten s x m t k = (i : ℕ) × (rewritten i ≡ true) × Loses g s i (x i) (m i) t k

-- The runs that are given up are of exactly the blocks that are lost, in the node pool and among each tier's data blocks.
pub record HoldLost (g : Sizes) (rewritten : ℕ → Bool) (s : Store) (x : ℕ → Slot) (m : ℕ → TierRuns) (lost : FreedBlocks) : Type 0 where
  pub nodes : (k : ℕ) → Contains (blocks_of lost.nodes.items) k ↔ (IsLost g rewritten s x m tiers.Fast k × (k < node_end g))
  pub per_tier : (t : Tier) (k : ℕ) → Contains (blocks_of (lost_in lost t)) k ↔ (IsLost g rewritten s x m t k × (data_first g t ≤ k))
  pub nodes_apart : LieApart lost.nodes.items
  pub apart : (t : Tier) → LieApart (lost_in lost t)

-- ---- the whole

-- whether the slot of inode i is among these
abbrev pub is_changed : List ChangedSlot → ℕ → Bool
is_changed slots i = list_any (λ c. c.inode == i) slots

-- whether inode i is rewritten by a plan
abbrev pub is_rewritten : Rewrite → ℕ → Bool
is_rewritten plan = is_changed plan.slots.items

-- Inode i, for each whose slot is in the plan, is to be written with the slot x i and the runs m i. Each block that was taken is used once, and in the node pool it has an
-- image; images are for blocks that have a use then; and they fit into one batch.
pub record IsPlanned (g : Sizes) (s : Store) (x : ℕ → Slot) (m : ℕ → TierRuns) (plan : Rewrite) : Type 0 where
  pub rise : RiseIn 1 MAX_INODE plan.slots.items
  pub slots : (c : ChangedSlot) → Contains plan.slots.items c → c.slot ≡ x c.inode
  pub each : (i : ℕ) → is_rewritten plan i ≡ true → IsPlannedInode g s plan.taken plan.nodes i (x i) (m i)
  pub free : WereFree g s plan.taken
  pub once : (u v : Use) (t : Tier) (k : ℕ) → BlockIsTaken plan.taken t k → HasBlockFor (is_rewritten plan) x m u (t, k) → HasBlockFor (is_rewritten plan) x m v (t, k) → u ≡ v
  pub all : (t : Tier) (k : ℕ) → BlockIsTaken plan.taken t k → (u : Use) × HasBlockFor (is_rewritten plan) x m u (t, k)
  pub imaged : (k : ℕ) → Contains (blocks_of plan.taken.nodes.items) k → IsSome (image_for k plan.nodes)
  pub images : (k : ℕ) → IsSome (image_for k plan.nodes) → (u : Use) × HasBlockFor (is_rewritten plan) x m u (tiers.Fast, k)
  pub nodes : AreNodes g plan.nodes
  pub few : min (length plan.slots.items) 32 + length plan.nodes ≤ 255
  pub marks : IfSome plan.marks (λ v. fits_marks v ≡ true)
  pub bytes : length plan.bytes.items ≡ 4096 * length (taken_data plan.taken)
  pub lost : HoldLost g (is_rewritten plan) s x m plan.lost

-- A plan over a store, for some slots and runs.
abbrev pub IsPlan : Sizes → Store → Rewrite → Type 0
IsPlan g s plan = (x : ℕ → Slot) × (m : ℕ → TierRuns) × IsPlanned g s x m plan
