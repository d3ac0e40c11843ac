-- The blocks that list the extents of a file after a change of it.
use Rattle.std.specs.Prelude.{◌≡◌, ◌≢◌, ◌<◌, ◌+◌, ◌==◌, true, ℕ, List, length, get_or, Option, Some, None, IfSome, if◌then◌else◌}
use Rattle.tier_device.specs.declared.media.Tier.{Tier}
use Rattle.tier_device.specs.declared.media.Tier.TheVariants as tiers
use Rattle.area_commit.specs.layout.declared.slot.Slot.{Slot}
use Rattle.area_commit.specs.layout.Extents.{ExtentList, extents_spelling}
use Rattle.area_commit.specs.layout.Places.{Sizes, is_node}
use Rattle.area_commit.specs.batch_journal.Blocks.{Blocks}
use Rattle.area_commit.specs.area_reader.Store.{root_of}
use Rattle.area_commit.specs.area_reader.Map.{in_tier}
use Rattle.area_commit.specs.area_reader.declared.tiers.InodeExtents.{InodeExtents}
use Rattle.inode_plan.specs.Lists.{root_for}

-- how many spare blocks a tier wants: one where it has extents and no block that lists them
abbrev pub missing_roots : ℕ → Option ExtentList → ℕ
missing_roots root None = 0
missing_roots root (Some v) = if root == 0 then 1 else 0

-- how many the tiers before one want
abbrev pub wanted_before : Slot → InodeExtents → Tier → ℕ
wanted_before slot x tiers.Fast = 0
wanted_before slot x tiers.Block = missing_roots (root_of slot tiers.Fast) x.fast
wanted_before slot x tiers.Slow = missing_roots (root_of slot tiers.Fast) x.fast + missing_roots (root_of slot tiers.Block) x.block

-- how many all tiers want
abbrev pub roots_wanted : Slot → InodeExtents → ℕ
roots_wanted slot x = wanted_before slot x tiers.Slow + missing_roots (root_of slot tiers.Slow) x.slow

-- A tier with extents keeps the block that lists them, or gets the next spare one where it has none; a tier without has none.
abbrev pub HasRootsOf : InodeExtents → List ℕ → Slot → Slot → Type 0
HasRootsOf x spare old new = (t : Tier) → root_of new t ≡ root_for (root_of old t) (in_tier x t) (get_or spare (wanted_before old x t) 0)

-- The spare blocks are of the node pool, no two are the same, and the slot names none of them.
pub record SparesFit (g : Sizes) (slot : Slot) (spare : List ℕ) : Type 0 where
  pub node : (n : ℕ) → n < length spare → is_node g (get_or spare n 0) ≡ true
  pub apart : (m n : ℕ) → m < length spare → n < length spare → get_or spare m 0 ≡ get_or spare n 0 → m ≡ n
  pub fresh : (t : Tier) (n : ℕ) → n < length spare → root_of slot t ≢ get_or spare n 0

-- Each tier with extents has the image of the block that lists them.
abbrev pub ListsStand : Blocks → Slot → InodeExtents → Type 0
ListsStand fast slot x = (t : Tier) → IfSome (in_tier x t) (λ v. fast (root_of slot t) ≡ extents_spelling v)
