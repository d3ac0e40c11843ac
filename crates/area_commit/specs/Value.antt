-- The free blocks of four pools, as callers see them.
use Rattle.std.specs.Prelude.{◌≡◌, ◌<◌, ◌≤◌, ◌↔◌, ◌⊎◌, ◌+◌, ◌++◌, ◌^◌, ℕ, List, false, Some, map}
use Rattle.std.specs.List.{Contains}
use Rattle.tier_device.specs.declared.media.Tier.{Tier}
use Rattle.tier_device.specs.declared.media.Tier.TheVariants as tiers
use Rattle.area_reader.specs.layout.declared.places.TheConstants.{FIRST_NODE_BLOCK}
use Rattle.area_reader.specs.layout.Places.{Sizes, node_end, data_first, tier_blocks}
use Rattle.block_alloc.specs.declared.runs.Run.{Run}
use Rattle.block_alloc.specs.Runs.{run_blocks}
use Rattle.block_alloc.specs.Value.{FreeBlocks, InOrder, SamePool}
use Rattle.area_reader.specs.Store.{Store}
use Rattle.area_reader.specs.Reads.{Free}
use Rattle.area_reader.specs.Format.{Use, used_block}
use Rattle.area_reader.specs.BlockMarks.{UsedMarks, is_marked, IsMarked}

-- the node pool, and the data blocks of each tier
pub record PoolsView : Type 0 where
  pub nodes : FreeBlocks
  pub fast : FreeBlocks
  pub block : FreeBlocks
  pub slow : FreeBlocks

-- the data blocks of a tier
abbrev pub data_pool : PoolsView → Tier → FreeBlocks
data_pool p tiers.Fast = p.fast
data_pool p tiers.Block = p.block
data_pool p tiers.Slow = p.slow

-- blocks of a tier, each with the tier
abbrev pub on_tier : Tier → List ℕ → List (Tier × ℕ)
on_tier t blocks = map (λ k. (t, k)) blocks

-- the free data blocks: fastest tier first, in each tier rising
abbrev pub free_data : PoolsView → List (Tier × ℕ)
free_data p = on_tier tiers.Fast p.fast.free ++ (on_tier tiers.Block p.block.free ++ on_tier tiers.Slow p.slow.free)

-- In each pool the free blocks rise strictly, within its range.
pub record AreInOrder (p : PoolsView) : Type 0 where
  pub nodes : InOrder p.nodes
  pub fast : InOrder p.fast
  pub block : InOrder p.block
  pub slow : InOrder p.slow

-- So they do, and the block numbers of the node pool have 32 bits.
pub record AreKept (p : PoolsView) : Type 0 where
  pub order : AreInOrder p
  pub fits : p.nodes.end < 2 ^ 32

-- The pools have the ranges that the sizes tell.
pub record HasRanges (g : Sizes) (p : PoolsView) : Type 0 where
  pub nodes_first : p.nodes.first ≡ FIRST_NODE_BLOCK
  pub nodes_end : p.nodes.end ≡ node_end g
  pub first : (t : Tier) → (data_pool p t).first ≡ data_first g t
  pub end : (t : Tier) → (data_pool p t).end ≡ tier_blocks g t

-- The pools have exactly the blocks that no inode reads: the node pool those of its range, a tier's its data blocks.
pub record AreFree (g : Sizes) (s : Store) (p : PoolsView) : Type 0 where
  pub nodes : (k : ℕ) → Contains p.nodes.free k ↔ (Free g s tiers.Fast k × (k < node_end g))
  pub per_tier : (t : Tier) (k : ℕ) → Contains (data_pool p t).free k ↔ (Free g s t k × (data_first g t ≤ k))

-- A run of blocks stands among a pool's free blocks; there was room for it.
pub record GivesRun (old new : FreeBlocks) (run : Run) : Type 0 where
  pub blocks : (k : ℕ) → Contains new.free k ↔ (Contains old.free k ⊎ Contains (run_blocks run) k)
  pub room : old.room ≤ new.room + 1
  pub pool : SamePool old new

-- The pool has exactly the blocks of its range that are not marked.
abbrev pub HasUnmarked : UsedMarks → Tier → FreeBlocks → Type 0
HasUnmarked m t p = (k : ℕ) → Contains p.free k ↔ ((p.first ≤ k) × (k < p.end) × (is_marked m t k ≡ false))

-- Marked are exactly the blocks that have a use.
abbrev pub MarksAll : Sizes → Store → UsedMarks → Type 0
MarksAll g s m = (t : Tier) (k : ℕ) → IsMarked m t k ↔ ((u : Use) × (used_block g s u ≡ Some (t, k)))
