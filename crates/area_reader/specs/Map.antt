-- An inode's slot and extents as they are read.
use Rattle.std.specs.Prelude.{◌≡◌, ◌≢◌, ◌⊎◌, ◌↔◌, ℕ, List, [], true, Option, Some, None, IsSome, IfSome}
use Rattle.tier_device.specs.declared.media.Tier.{Tier}
use Rattle.tier_device.specs.declared.media.Tier.TheVariants as tiers
use Rattle.batch_journal.specs.layout.declared.slot.Slot.{Slot}
use Rattle.batch_journal.specs.layout.declared.extents.Extent.{Extent}
use Rattle.batch_journal.specs.layout.declared.geometry.Space.{Space}
use Rattle.batch_journal.specs.layout.Extents.{ExtentList, extents_of, fits_extents}
use Rattle.batch_journal.specs.layout.declared.error.What.{What}
use Rattle.batch_journal.specs.layout.declared.error.What.TheVariants as what
use Rattle.extent_tree.specs.Places.{place_of}
use Rattle.batch_journal.specs.Blocks.{Blocks}
use Rattle.batch_journal.specs.layout.Places.{Sizes, slot_block}
use Rattle.area_reader.specs.Store.{Store, root_of, space_of, slot, extents_by, slot_read}
use Rattle.area_reader.specs.declared.tiers.InodeExtents.{InodeExtents}

-- the extents of a block, none where there is no block
abbrev pub extents_in : Option ExtentList → List Extent
extents_in None = []
extents_in (Some v) = v.extents

-- Extents of this inode in one block, within the limits of the format.
pub record IsOwnList (g : Sizes) (p : Space) (i : ℕ) (v : ExtentList) : Type 0 where
  pub owner : v.owner ≡ i
  pub level : v.level ≡ 0
  pub fits : fits_extents g p v ≡ true

-- What is read of the extents of inode i in a tier: a block exactly where its slot names one, and the extents of that one.
pub record HasExtents (g : Sizes) (fast : Blocks) (i : ℕ) (slot : Slot) (t : Tier) (x : Option ExtentList) : Type 0 where
  pub extents : extents_by g fast i slot t ≡ Some (extents_in x)
  pub none : (x ≡ None) ↔ (root_of slot t ≡ 0)
  pub list : IfSome x (IsOwnList g (space_of slot t) i)

-- The extent block that a slot names in some tier spells none that are the inode's within its size.
pub record HasNoExtents (g : Sizes) (fast : Blocks) (i : ℕ) (slot : Slot) (w : What) (block : ℕ) : Type 0 where
  pub tier : Tier
  pub structure : w ≡ what.ExtentBlock
  pub at : block ≡ root_of slot tier
  pub some : root_of slot tier ≢ 0
  pub none : extents_by g fast i slot tier ≡ None

-- The extent block that a slot names in a tier is one: what it spells wants memory.
pub record HasList (g : Sizes) (fast : Blocks) (slot : Slot) (t : Tier) : Type 0 where
  pub some : root_of slot t ≢ 0
  pub list : IsSome (extents_of g (space_of slot t) (fast (root_of slot t)))

-- Some extent block that a slot names is one.
abbrev pub HasSomeList : Sizes → Blocks → Slot → Type 0
HasSomeList g fast slot = (t : Tier) × HasList g fast slot t

-- The slot of inode i is one, and some extent block that it names.
pub record WantsMemory (g : Sizes) (s : Store) (i : ℕ) : Type 0 where
  pub inode : Slot
  pub slot_is : slot_read g s i ≡ Some inode
  pub some : HasSomeList g (s tiers.Fast) inode

-- what is read in one tier
abbrev pub in_tier : InodeExtents → Tier → Option ExtentList
in_tier x tiers.Fast = x.fast
in_tier x tiers.Block = x.block
in_tier x tiers.Slow = x.slow

-- where a logical block lies in a tier
abbrev pub place_by : InodeExtents → Tier → ℕ → Option ℕ
place_by x t k = place_of (extents_in (in_tier x t)) k

-- One tier at most maps a logical block.
abbrev pub IsOnceAt : InodeExtents → ℕ → Type 0
IsOnceAt x k = (t u : Tier) → IsSome (place_by x t k) → IsSome (place_by x u k) → t ≡ u

-- A tier maps a logical block, and so does another one.
pub record IsTwiceAt (x : InodeExtents) (t : Tier) (k : ℕ) : Type 0 where
  pub other : Tier
  pub differ : other ≢ t
  pub here : IsSome (place_by x t k)
  pub there : IsSome (place_by x other k)

-- what is read by this slot, in each tier
abbrev pub HasAllExtents : Sizes → Blocks → ℕ → Slot → InodeExtents → Type 0
HasAllExtents g fast i slot x = (t : Tier) → HasExtents g fast i slot t (in_tier x t)

-- The slot of inode i is none, or an extent block that it names.
abbrev pub IsPartDamage : Sizes → Store → ℕ → What → ℕ → Type 0
IsPartDamage g s i w block =
    ((w ≡ what.Slot) × (block ≡ slot_block i) × (slot_read g s i ≡ None)) ⊎ ((x : Slot) × (slot_read g s i ≡ Some x) × HasNoExtents g (s tiers.Fast) i x w block)
