-- The blocks that an inode has, as runs that are given up.
use Rattle.std.specs.Prelude.{◌≡◌, ◌++◌, ℕ, List, [], Some}
use Rattle.std.specs.List.{AllByRecursion}
use Rattle.tier_device.specs.declared.media.Tier.{Tier}
use Rattle.tier_device.specs.declared.media.Tier.TheVariants as tiers
use Rattle.inode_plan.specs.layout.declared.slot.Slot.{Slot}
use Rattle.inode_plan.specs.layout.declared.slot.Slot.TheVariants as slots
use Rattle.block_alloc.specs.declared.runs.Run.{Run}
use Rattle.block_alloc.specs.Runs.{blocks_of}
use Rattle.block_alloc.specs.Value.{FreeBlocks}
use Rattle.inode_plan.specs.extent_tree.BlockFormat.{IsOneToOne}
use Rattle.inode_plan.specs.extent_tree.Map.{TierRuns, runs_in, lies_at, HasBlock}
use Rattle.inode_plan.specs.area_commit.Release.{AreUsed, IsInUse}
use Rattle.inode_plan.specs.Lists.{roots_left}
use Rattle.inode_plan.specs.area_commit.declared.plan.FreedBlocks.{FreedBlocks}
use Rattle.inode_plan.specs.MapChange.{AreAll}

-- These are the places of all blocks in a tier; they can be given to a pool in which each is in use, where each block lies in a place of its own.
pub record AreAllRuns (m : TierRuns) (t : Tier) (runs : List Run) : Type 0 where
  pub all : AreAll m t (blocks_of runs)
  pub can_be_given : (p : FreeBlocks) → IsOneToOne (runs_in m t) → ((k b : ℕ) → lies_at m t k ≡ Some b → IsInUse p b) → AreUsed p runs

-- The blocks that list extents, and those of the fast tier: a directory's are all of the node pool.
abbrev pub IsSorted : Slot → List Run → List Run → FreedBlocks → Type 0
IsSorted (slots.Directory names entries touch root) roots fast lost = (lost.nodes.items ≡ roots ++ fast) × (lost.fast.items ≡ [])
IsSorted (slots.File names size touch a b c) roots fast lost = (lost.nodes.items ≡ roots) × (lost.fast.items ≡ fast)
IsSorted slots.Free roots fast lost = (lost.nodes.items ≡ roots) × (lost.fast.items ≡ fast)

-- What is given up are the blocks that list the extents of an inode with this slot, and all places of its blocks.
pub record AreAllBlocks (x : Slot) (m : TierRuns) (lost : FreedBlocks) : Type 0 where
  pub roots : List Run
  pub fast : List Run
  pub roots_are : blocks_of roots ≡ roots_left x slots.Free
  pub roots_some : AllByRecursion HasBlock roots
  pub fast_are : AreAllRuns m tiers.Fast fast
  pub block_are : AreAllRuns m tiers.Block lost.block.items
  pub slow_are : AreAllRuns m tiers.Slow lost.slow.items
  pub sorted : IsSorted x roots fast lost
