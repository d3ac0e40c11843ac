-- What a file is after a change, and what the store has then.
use Rattle.std.specs.Prelude.{◌≡◌, ℕ, List, Some, map}
use Rattle.tier_device.specs.declared.media.Tier.{Tier}
use Rattle.tier_device.specs.declared.media.Tier.TheVariants as tiers
use Rattle.area_commit.specs.layout.Places.{Sizes}
use Rattle.block_alloc.specs.declared.runs.Run.{Run}
use Rattle.area_commit.specs.graph_change.Net.{Base}
use Rattle.area_commit.specs.DataWrite.{HoldData}
use Rattle.area_commit.specs.extent_tree.Map.{TierRuns, lies_at}
use Rattle.area_commit.specs.extent_tree.declared.map.Place.{Place}
use Rattle.area_commit.specs.area_reader.Store.{Store, place}
use Rattle.area_commit.specs.InodeChange.{place_from}
use Rattle.inode_plan.specs.declared.file_plan.FilePlan.{FilePlan}
use Rattle.inode_plan.specs.declared.file_plan.LeftRuns.{LeftRuns}

-- the runs of a tier that a planned file leaves
abbrev pub left_in : FilePlan → Tier → List Run
left_in plan tiers.Fast = plan.fast.items
left_in plan tiers.Block = plan.block.items
left_in plan tiers.Slow = plan.slow.items

-- the same, before the plan is made
abbrev pub runs_left : LeftRuns → Tier → List Run
runs_left left tiers.Fast = left.fast.items
runs_left left tiers.Block = left.block.items
runs_left left tiers.Slow = left.slow.items

-- a place, as the tier and the block
abbrev pub pair_of : Place → Tier × ℕ
pair_of p = (p.tier, p.block)

-- places, each as the tier and the block
abbrev pub pairs_of : List Place → List (Tier × ℕ)
pairs_of places = map pair_of places

-- The blocks lie in memory where the change starts from: where the inode's lay, or nowhere where it is made.
abbrev pub StartsFrom : Sizes → Store → ℕ → Base → TierRuns → Type 0
StartsFrom g s i base m = (t : Tier) (k : ℕ) → lies_at m t k ≡ place_from base (place g s i t k)

-- The bytes stand in the blocks of these places, and each block in which one lay that the change starts from is as it was: of a file that is made none.
pub record HasData (g : Sizes) (base : Base) (old new : Store) (i : ℕ) (places : List Place) (bytes : List ℕ) : Type 0 where
  pub holds : HoldData new (pairs_of places) bytes
  pub stays : (t : Tier) (k p : ℕ) → place_from base (place g old i t k) ≡ Some p → new t p ≡ old t p
