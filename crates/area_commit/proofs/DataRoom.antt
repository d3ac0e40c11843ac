-- Each data block is free, or some inode holds it.
use Rattle.std.proofs.Common.{◌≡◌, ◌≤◌, ◌<◌, ◌+◌, ℕ, List, ◌++◌, length, inl, inr, arith, subst, true}
use Rattle.std.specs.List.{Contains}
use Rattle.std.proofs.lemmas.List.{length-append, length-map}
use Rattle.std.proofs.lemmas.List.Elements.{Contains-append_left, Contains-append_right}
use Rattle.tier_device.specs.declared.media.Tier.{Tier}
use Rattle.tier_device.specs.declared.media.Tier.TheVariants.{Fast, Block, Slow}
use Rattle.area_reader.specs.file_graph.Units.{charge}
use Rattle.area_reader.specs.layout.Places.{Sizes, is_inode, slot_block, node_end, data_first, data_blocks, tier_blocks}
use Rattle.area_reader.specs.Store.{Store, slot, root_of, graph}
use Rattle.area_reader.specs.Reads.{InodeReads, IsRoom}
use Rattle.area_reader.specs.Format.{IsSpelled, KeepsUnits}
use Rattle.area_commit.specs.Value.{PoolsView, data_pool, on_tier, free_data, AreFree}
use Rattle.area_commit.proofs.Counting.{in_or_not, covers}
use Rattle.area_commit.proofs.RoomHeld.{inode_low, root_within, held, is_held, held_few}
use Rattle.area_commit.proofs.Allowed.{enough_blocks}

data_room : (g : Sizes) (t : Tier) (k : ℕ) → data_first g t ≤ k → k < tier_blocks g t → IsRoom g t k
data_room g Fast k low high = record { first = omega (arith, low); last = high }
data_room g Block k low high = record { first = omega (arith, low); last = high }
data_room g Slow k low high = record { first = omega (arith, low); last = high }

-- the slots stand before the pools
pub slot_low : (i : ℕ) → is_inode i ≡ true → slot_block i < 292
slot_low i number = let last : i ≤ 1024 = (inode_low i number).1 in omega (arith, last)

module _ (g : Sizes) (s : Store) (spelled : IsSpelled g s) where
  unread : (t : Tier) (k : ℕ) → data_first g t ≤ k → (Contains (held g s spelled t) k → ⊥) → (i : ℕ) → InodeReads g s i t k → ⊥
  unread t k low none i (inl (number, fast, at)) =
      let after : node_end g ≤ k = subst (λ (u : Tier). data_first g u ≤ k) fast low in
      let before : slot_block i < 292 = slot_low i number in
      omega (arith, after, before, at)
  unread t k low none i (inr (inl (u, fast, some, at))) =
      let after : node_end g ≤ k = subst (λ (u : Tier). data_first g u ≤ k) fast low in
      let before : root_of (slot g s i) u < node_end g = (root_within g s i u some).1 in
      omega (arith, after, before, at)
  unread t k low none i (inr (inr (j, at))) = none (is_held g s spelled i j t k at)

  module _ (p : PoolsView) (free : AreFree g s p) where
    tier_covered : (t : Tier) → data_blocks g t ≤ length (held g s spelled t) + length (data_pool p t).free
    tier_covered t =
        let all : data_blocks g t ≤ length (held g s spelled t ++ (data_pool p t).free) =
        covers (data_blocks g t) (data_first g t) (held g s spelled t ++ (data_pool p t).free) (λ k low high. elim (in_or_not (held g s spelled t) k) [
          | inl here ↦ Contains-append_left (held g s spelled t) (data_pool p t).free k here
          | inr none ↦ Contains-append_right (held g s spelled t) (data_pool p t).free k ((free.per_tier t k).1 (record { room = data_room g t k low high; unread = unread t k low none }, low))
        ]) in
        let long : length (held g s spelled t ++ (data_pool p t).free) ≡ length (held g s spelled t) + length (data_pool p t).free = length-append (held g s spelled t) (data_pool p t).free in
        omega (arith, all, long)

tier_long : (t : Tier) (blocks : List ℕ) → length (on_tier t blocks) ≡ length blocks
tier_long t blocks = length-map blocks (λ k. (t, k))

free_long : (p : PoolsView) → length (free_data p) ≡ length p.fast.free + (length p.block.free + length p.slow.free)
free_long p =
    let whole : length (free_data p) ≡ length (on_tier Fast p.fast.free) + length (on_tier Block p.block.free ++ on_tier Slow p.slow.free) = length-append (on_tier Fast p.fast.free) (on_tier Block p.block.free ++ on_tier Slow p.slow.free) in
    let rest : length (on_tier Block p.block.free ++ on_tier Slow p.slow.free) ≡ length (on_tier Block p.block.free) + length (on_tier Slow p.slow.free) = length-append (on_tier Block p.block.free) (on_tier Slow p.slow.free) in
    let one : length (on_tier Fast p.fast.free) ≡ length p.fast.free = tier_long Fast p.fast.free in
    let two : length (on_tier Block p.block.free) ≡ length p.block.free = tier_long Block p.block.free in
    let three : length (on_tier Slow p.slow.free) ≡ length p.slow.free = tier_long Slow p.slow.free in
    omega (arith, whole, rest, one, two, three)

pub data_used : (g : Sizes) (s : Store) (p : PoolsView) → IsSpelled g s → AreFree g s p → g.fast + g.block + g.slow ≤ length (free_data p) + charge (graph g s)
data_used g s p spelled free =
    let fast : g.fast ≤ length (held g s spelled Fast) + length p.fast.free = tier_covered g s spelled p free Fast in
    let block : g.block ≤ length (held g s spelled Block) + length p.block.free = tier_covered g s spelled p free Block in
    let slow : g.slow ≤ length (held g s spelled Slow) + length p.slow.free = tier_covered g s spelled p free Slow in
    let few : length (held g s spelled Fast) + length (held g s spelled Block) + length (held g s spelled Slow) ≤ charge (graph g s) = held_few g s spelled in
    let long : length (free_data p) ≡ length p.fast.free + (length p.block.free + length p.slow.free) = free_long p in
    omega (arith, fast, block, slow, few, long)

pub data_unused : (g : Sizes) (s : Store) (p : PoolsView) → IsSpelled g s → AreFree g s p → g.units + 512 ≤ length (free_data p) + charge (graph g s)
data_unused g s p spelled free =
    let used : g.fast + g.block + g.slow ≤ length (free_data p) + charge (graph g s) = data_used g s p spelled free in
    let enough : g.units + 512 ≤ g.fast + g.block + g.slow = enough_blocks g (s Fast 0) spelled.superblock in
    omega (arith, used, enough)

pub data_spare : (g : Sizes) (s : Store) (p : PoolsView) → IsSpelled g s → KeepsUnits g s → AreFree g s p → 512 ≤ length (free_data p)
data_spare g s p spelled keeps free =
    let unused : g.units + 512 ≤ length (free_data p) + charge (graph g s) = data_unused g s p spelled free in
    let units : charge (graph g s) ≤ g.units = keeps in
    omega (arith, unused, units)
