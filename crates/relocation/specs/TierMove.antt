-- A run of a file's blocks that may be moved, and what is moved.
use Rattle.std.specs.Prelude.{◌≡◌, ◌≢◌, ◌≤◌, ◌↔◌, true, false, ℕ, Some, None, IsSome}
use Rattle.tier_device.specs.declared.media.Tier.{Tier}
use Rattle.inode_plan.specs.file_graph.declared.effect.Kind.TheVariants as kind
use Rattle.inode_plan.specs.layout.Places.{Sizes}
use Rattle.inode_plan.specs.extent_tree.Places.{in_run}
use Rattle.inode_plan.specs.area_reader.Store.{Store, slot, touch_of, root_of, place, inode}
use Rattle.inode_plan.specs.RunPlaces.{InFaster}

-- The inode is a file, the run has 1 to 256 blocks, and each of them lies in a tier that is faster than this one.
pub record CanMove (g : Sizes) (s : Store) (i first count : ℕ) (to : Tier) : Type 0 where
  pub kind_is : (inode g s i).kind ≡ Some kind.File
  pub some : 1 ≤ count
  pub few : count ≤ 256
  pub above : (k : ℕ) → in_run first count k ≡ true → InFaster to (λ t. IsSome (place g s i t k))

-- The run lies in that tier and in no other; all other blocks of all inodes lie where they lay, and the number of each inode's last digest stays. The inode has an extent block
-- exactly for each tier in which a block of it lies.
pub record IsMoved (g : Sizes) (old new : Store) (i first count : ℕ) (to : Tier) : Type 0 where
  pub there : (k : ℕ) → in_run first count k ≡ true → IsSome (place g new i to k)
  pub gone : (t : Tier) (k : ℕ) → t ≢ to → in_run first count k ≡ true → place g new i t k ≡ None
  pub others : (t : Tier) (k : ℕ) → in_run first count k ≡ false → place g new i t k ≡ place g old i t k
  pub inodes : (j : ℕ) (t : Tier) (k : ℕ) → j ≢ i → place g new j t k ≡ place g old j t k
  pub touches : (j : ℕ) → touch_of (slot g new j) ≡ touch_of (slot g old j)
  pub roots : (t : Tier) → (root_of (slot g new i) t ≡ 0) ↔ ((k : ℕ) → place g new i t k ≡ None)
