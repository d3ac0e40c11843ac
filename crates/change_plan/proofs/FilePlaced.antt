-- The blocks of a file before the change, in a pool of all blocks of a tier.
use Rattle.std.proofs.Common.{◌≡◌, ◌<◌, ℕ, [], Option, Some, None, refl, arith}
use Rattle.std.specs.Prelude.{IsSome}
use Rattle.std.proofs.lemmas.Bool.{false≢true}
use Rattle.tier_device.specs.declared.media.Tier.{Tier}
use Rattle.inode_plan.specs.graph_change.Net.{Base}
use Rattle.inode_plan.specs.layout.Places.{Sizes, tier_blocks}
use Rattle.inode_plan.specs.layout.declared.places.TheConstants.{FILE_BLOCKS}
use Rattle.block_alloc.specs.Value.{FreeBlocks}
use Rattle.inode_plan.proofs.area_commit_lemmas.Members.{nothing}
use Rattle.inode_plan.specs.extent_tree.Map.{TierRuns, lies_at, LieBelow}
use Rattle.inode_plan.specs.area_reader.Store.{Store}
use Rattle.inode_plan.specs.area_commit.Release.{IsInUse}
use Rattle.change_plan.specs.File.{IsOldMap}
use Rattle.change_plan.proofs.Blocked.{data_within}

-- a pool of all blocks of a tier, none of which is free
abbrev pub whole_tier : Sizes → Tier → FreeBlocks
whole_tier g t = record { first = 0; end = tier_blocks g t; free = []; room = 0 }

module _ (g : Sizes) (s : Store) (base : Base) (i : ℕ) (m : TierRuns) (was : IsOldMap g s base i m) where
  few_by : (t : Tier) (k : ℕ) (o : Option ℕ) → lies_at m t k ≡ o → IsSome o → k < FILE_BLOCKS
  few_by t k None is some = absurd (false≢true some)
  few_by t k (Some b) is some = (was.within t k b is).0

  pub all_below : LieBelow FILE_BLOCKS m
  all_below t k some = few_by t k (lies_at m t k) refl some

  pub in_use : (t : Tier) (k b : ℕ) → lies_at m t k ≡ Some b → IsInUse (whole_tier g t) b
  in_use t k b at = record { low = omega arith; high = (data_within g t b (was.within t k b at).1).1; used = λ none. nothing b none }
