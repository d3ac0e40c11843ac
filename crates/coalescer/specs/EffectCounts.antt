-- What is counted of some effects.
use Rattle.std.specs.Prelude.{◌≡◌, ◌-◌, ◌^◌, ℕ, List, length, min, nat_eq}
use Rattle.std.specs.List.{flat_map, sum_by}
use Rattle.std.specs.Set.{is_member}
use Rattle.std.specs.declared.cmp.Ordering.{Ordering}
use Rattle.std.specs.Ordering.{nat_cmp, ordering_then}
use Rattle.std.specs.BTreeSet.{contains}
use Rattle.graph_change.specs.file_graph.declared.effect.Effect.{Effect}
use Rattle.graph_change.specs.file_graph.Graph.{touches}
use Rattle.coalescer.specs.declared.estimate.Estimate.{Estimate}
use Rattle.coalescer.specs.declared.weight.Weight.{Weight}
use Rattle.coalescer.specs.declared.weight.TheConstants.{CHUNK_IMAGES}
use Rattle.coalescer.specs.Weight.{entry_weight, file_blocks, same_block}

-- by the inode, and then by the block
abbrev pub block_cmp : ℕ × ℕ → ℕ × ℕ → Ordering
block_cmp a b = ordering_then (nat_cmp a.0 b.0) (nat_cmp a.1 b.1)

-- it is the weight of these effects
pub record Weighs (es : List Effect) (w : Weight) : Type 0 where
  pub inodes : (q : ℕ) → contains nat_cmp w.inodes q ≡ is_member nat_eq (touches es) q
  pub entries : w.entries ≡ min (sum_by entry_weight es) CHUNK_IMAGES
  pub blocks : (q : ℕ × ℕ) → contains block_cmp w.blocks q ≡ is_member same_block (flat_map file_blocks es) q

-- it is what these effects weigh, where each block counts as often as it is written
pub record IsEstimate (es : List Effect) (m : Estimate) : Type 0 where
  pub inodes : (q : ℕ) → contains nat_cmp m.inodes q ≡ is_member nat_eq (touches es) q
  pub entries : m.entries ≡ min (sum_by entry_weight es) CHUNK_IMAGES
  pub blocks : m.blocks ≡ min (length (flat_map file_blocks es)) (2 ^ 64 - 1)
