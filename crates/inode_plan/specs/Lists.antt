-- The extents of an inode, as they are read and as they are in memory.
use Rattle.std.specs.Prelude.{◌≡◌, ◌≢◌, ◌+◌, ◌*◌, ◌<◌, ◌==◌, ◌||◌, not, ◌++◌, ◌∷◌, true, ℕ, List, [], Option, Some, None, IfSome, IsSome, if◌then◌else◌}
use Rattle.tier_device.specs.declared.media.Tier.{Tier}
use Rattle.tier_device.specs.declared.media.Tier.TheVariants as tiers
use Rattle.area_commit.specs.layout.declared.places.TheConstants.{BLOCK}
use Rattle.area_commit.specs.layout.declared.slot.Slot.{Slot}
use Rattle.area_commit.specs.layout.Extents.{ExtentList}
use Rattle.area_commit.specs.layout.Places.{Sizes}
use Rattle.area_commit.specs.layout.Slot.{is_root_block}
use Rattle.area_commit.specs.batch_journal.Images.{slice}
use Rattle.area_commit.specs.extent_tree.Map.{TierRuns, runs_in, lies_at}
use Rattle.area_commit.specs.tree_blocks.Inode.{LogicalBlocks}
use Rattle.area_commit.specs.area_reader.Store.{Store, place, root_of, space_of}
use Rattle.area_commit.specs.area_reader.Map.{in_tier, place_by, IsOwnList}
use Rattle.area_commit.specs.area_reader.declared.tiers.InodeExtents.{InodeExtents}

-- The extents of each tier are a list of this inode's, within the limits of the format.
abbrev pub AreOwnLists : Sizes → ℕ → Slot → InodeExtents → Type 0
AreOwnLists g i slot x = (t : Tier) → IfSome (in_tier x t) (IsOwnList g (space_of slot t) i)

-- Each block lies in memory where the extents tell.
abbrev pub HasPlaces : InodeExtents → TierRuns → Type 0
HasPlaces x m = (t : Tier) (k : ℕ) → lies_at m t k ≡ place_by x t k

-- An extent block of this inode has the runs of a tier; there is none where there is no run.
abbrev pub IsListOf : ℕ → TierRuns → Tier → Option ExtentList → Type 0
IsListOf i m t None = runs_in m t ≡ []
IsListOf i m t (Some v) = (runs_in m t ≢ []) × (v ≡ record { owner = i; level = 0; extents = runs_in m t })

-- So have the extent blocks of all tiers.
abbrev pub AreListsOf : ℕ → TierRuns → InodeExtents → Type 0
AreListsOf i m x = (t : Tier) → IsListOf i m t (in_tier x t)

-- Each block lies in memory where the media tell.
abbrev pub LieAsIn : Sizes → Store → ℕ → TierRuns → Type 0
LieAsIn g s i m = (t : Tier) (k : ℕ) → lies_at m t k ≡ place g s i t k

-- A block lies in some tier.
abbrev pub LiesSomewhere : TierRuns → ℕ → Type 0
LiesSomewhere m k = (t : Tier) × IsSome (lies_at m t k)

-- The bytes are those of a run of blocks, one after the other.
abbrev pub HoldsRun : LogicalBlocks → ℕ → ℕ → List ℕ → Type 0
HoldsRun blocks first count bytes = (n : ℕ) → n < count → slice (BLOCK * n) BLOCK bytes ≡ blocks (first + n)

-- the root of a tier for new extents: none where there are none, else the old one, or where that is none a block that is spare
abbrev pub root_for : ℕ → Option ExtentList → ℕ → ℕ
root_for old None spare = 0
root_for old (Some v) spare = if old == 0 then spare else old

-- Each tier has such a root.
abbrev pub HasRoots : InodeExtents → ℕ → Slot → Slot → Type 0
HasRoots x spare old new = (t : Tier) → root_of new t ≡ root_for (root_of old t) (in_tier x t) spare

-- A tier has extents, and no block that lists them.
abbrev pub LacksRoot : Slot → InodeExtents → Tier → Type 0
LacksRoot slot x t = (root_of slot t ≡ 0) × IsSome (in_tier x t)

-- The spare block is none or one of the node pool that the slot does not name, and one tier at most lacks one.
pub record SpareFits (g : Sizes) (slot : Slot) (x : InodeExtents) (spare : ℕ) : Type 0 where
  pub node : is_root_block g spare ≡ true
  pub fresh : (t : Tier) → root_of slot t ≢ 0 → root_of slot t ≢ spare
  pub one : (t u : Tier) → LacksRoot slot x t → LacksRoot slot x u → t ≡ u

-- a block that listed extents, where nothing lists them now
abbrev pub root_left : ℕ → ℕ → List ℕ
root_left old new = if (old == 0) || not (new == 0) then [] else old ∷ []

-- the blocks that listed extents of an inode, of the tiers in which none does now
abbrev pub roots_left : Slot → Slot → List ℕ
roots_left old new = root_left (root_of old tiers.Fast) (root_of new tiers.Fast) ++ root_left (root_of old tiers.Block) (root_of new tiers.Block) ++ root_left (root_of old tiers.Slow) (root_of new tiers.Slow)
