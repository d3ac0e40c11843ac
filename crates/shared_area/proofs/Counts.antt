-- How many blocks of a pool are free.
use Rattle.std.proofs.Common.{◌≡◌, ◌≤◌, ◌<◌, ℕ, List, length, sym, subst}
use Rattle.tier_device.specs.declared.media.Tier.{Tier}
use Rattle.tier_device.specs.declared.media.Tier.TheVariants.{Fast, Block, Slow}
use Rattle.area_reader.specs.layout.Places.{Sizes, data_first, tier_blocks, node_end}
use Rattle.block_alloc.specs.Runs.{Rising}
use Rattle.block_alloc.specs.Value.{InOrder}
use Rattle.area_reader.specs.Store.{Store}
use Rattle.area_reader.specs.Reads.{Free}
use Rattle.change_plan.specs.area_commit.Value.{PoolsView, data_pool, AreInOrder, HasRanges, AreFree}
use Rattle.shared_area.specs.Ready.{HasCount}

order_in : (p : PoolsView) (t : Tier) → AreInOrder p → InOrder (data_pool p t)
order_in p Fast order = order.fast
order_in p Block order = order.block
order_in p Slow order = order.slow

-- numbers that rise within a range, which is also told so
rise_as : (first last a b : ℕ) (ks : List ℕ) → first ≡ a → last ≡ b → Rising first last ks → Rising a b ks
rise_as first last a b ks low high rises = subst (λ (n : ℕ). Rising a n ks) high (subst (λ (n : ℕ). Rising n last ks) low rises)

module _ (g : Sizes) (s : Store) (p : PoolsView) (ranges : HasRanges g p) (free : AreFree g s p) (order : AreInOrder p) (n : ℕ) where
  pub data_count : (t : Tier) → n ≡ length (data_pool p t).free → HasCount (data_first g t) (tier_blocks g t) (λ k. Free g s t k × (data_first g t ≤ k)) n
  data_count t many = record {
    blocks = (data_pool p t).free;
    rises = rise_as _ _ _ _ _ (ranges.first t) (ranges.end t) (order_in p t order);
    each = free.per_tier t;
    many = sym many;
  }

  pub node_count : n ≡ length p.nodes.free → HasCount 292 (node_end g) (λ k. Free g s Fast k × (k < node_end g)) n
  node_count many = record {
    blocks = p.nodes.free;
    rises = rise_as _ _ _ _ _ ranges.nodes_first ranges.nodes_end order.nodes;
    each = free.nodes;
    many = sym many;
  }
