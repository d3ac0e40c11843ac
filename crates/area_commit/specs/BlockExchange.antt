-- What becomes of the blocks of inodes that are rewritten.
use Rattle.std.specs.Prelude.{◌≡◌, ◌<◌, ◌≤◌, ◌↔◌, ◌⊎◌, ℕ, Bool, true, false, List, [], ◌∷◌, Some}
use Rattle.std.specs.List.{Contains}
use Rattle.tier_device.specs.declared.media.Tier.{Tier}
use Rattle.tier_device.specs.declared.media.Tier.TheVariants.{Fast}
use Rattle.area_reader.specs.file_graph.Graph.{is_among}
use Rattle.area_reader.specs.layout.Places.{Sizes, is_inode, node_end, data_first}
use Rattle.block_alloc.specs.Runs.{blocks_of}
use Rattle.area_reader.specs.Store.{Store}
use Rattle.area_reader.specs.Format.{Use, used_block}
use Rattle.area_commit.specs.Value.{PoolsView, data_pool}
use Rattle.area_commit.specs.declared.allocation.Allocation.{Allocation}
use Rattle.area_commit.specs.Allocations.{runs_of}

-- Each number is an inode's, and none stands twice.
abbrev pub AreInodesOnce : List ℕ → Type 0
AreInodesOnce [] = Unit {0}
AreInodesOnce (i ∷ is) = (is_inode i ≡ true) × (is_among i is ≡ false) × AreInodesOnce is

-- Inode i has a use for a block.
abbrev pub Uses : Sizes → Store → ℕ → Tier → ℕ → Type 0
Uses g s i t k = (u : Use) × (u.inode ≡ i) × (used_block g s u ≡ Some (t, k))

-- An inode that is rewritten had a use for a block, and has none now.
pub record BlockIsGivenUp (g : Sizes) (rewritten : ℕ → Bool) (old new : Store) (t : Tier) (k : ℕ) : Type 0 where
  pub inode : ℕ
  pub its : rewritten inode ≡ true
  pub was : Uses g old inode t k
  pub none : Uses g new inode t k → ⊥

-- Inodes that are rewritten keep blocks, and get all that were taken and no other; the others use what they did.
pub record Exchanges (g : Sizes) (rewritten : ℕ → Bool) (old new : Store) (taken : Tier → ℕ → Type 0) : Type 0 where
  pub others : (u : Use) → rewritten u.inode ≡ false → used_block g new u ≡ used_block g old u
  pub gets : (i : ℕ) (t : Tier) (k : ℕ) → rewritten i ≡ true → Uses g new i t k → Uses g old i t k ⊎ taken t k
  pub all : (t : Tier) (k : ℕ) → taken t k → (u : Use) × (used_block g new u ≡ Some (t, k))

-- The block was taken of the node pool or of a tier's data blocks.
abbrev pub BlockIsTaken : Allocation → Tier → ℕ → Type 0
BlockIsTaken taken t k = ((t ≡ Fast) × Contains (blocks_of taken.nodes.items) k) ⊎ Contains (blocks_of (runs_of taken t)) k

-- The blocks that are given stand in their pools beside those that were there.
pub record WereGiven (g : Sizes) (old new : PoolsView) (given : Tier → ℕ → Type 0) : Type 0 where
  pub nodes : (k : ℕ) → Contains new.nodes.free k ↔ (Contains old.nodes.free k ⊎ (given Fast k × (k < node_end g)))
  pub per_tier : (t : Tier) (k : ℕ) → Contains (data_pool new t).free k ↔ (Contains (data_pool old t).free k ⊎ (given t k × (data_first g t ≤ k)))

-- The pools have what they had but for what was taken, and what was given.
pub record HaveExchanged (g : Sizes) (old new : PoolsView) (taken given : Tier → ℕ → Type 0) : Type 0 where
  pub nodes : (k : ℕ) → Contains new.nodes.free k ↔ ((Contains old.nodes.free k × (taken Fast k → ⊥)) ⊎ (given Fast k × (k < node_end g)))
  pub per_tier : (t : Tier) (k : ℕ) → Contains (data_pool new t).free k ↔ ((Contains (data_pool old t).free k × (taken t k → ⊥)) ⊎ (given t k × (data_first g t ≤ k)))
