-- Some inodes of a store that are written anew.
use Rattle.std.specs.Prelude.{◌≡◌, ◌⊎◌, true, false, Bool, ℕ, Some, IsSome}
use Rattle.tier_device.specs.declared.media.Tier.{Tier}
use Rattle.tier_device.specs.declared.media.Tier.TheVariants as tiers
use Rattle.area_reader.specs.layout.declared.places.TheConstants.{SUPER_BLOCK}
use Rattle.area_reader.specs.layout.declared.slot.Slot.{Slot}
use Rattle.area_reader.specs.layout.Places.{Sizes, is_inode}
use Rattle.area_reader.specs.extent_tree.Map.{TierRuns}
use Rattle.area_reader.specs.Store.{Store, slot_bytes, marks}
use Rattle.area_reader.specs.Reads.{IsRoom, Free}
use Rattle.area_reader.specs.Format.{Use, used_block}
use Rattle.area_commit.specs.InodeRewrite.{IsFit, IsWritten, block_by}

-- The block is free, or one of these inodes has a use for it.
abbrev pub MayTake : Sizes → (ℕ → Bool) → Store → Tier × ℕ → Type 0
MayTake g rewritten s b = Free g s b.0 b.1 ⊎ ((u : Use) × (rewritten u.inode ≡ true) × (used_block g s u ≡ Some b))

-- One of these inodes, as it is written, has this use for a block.
abbrev pub HasBlockFor : (ℕ → Bool) → (ℕ → Slot) → (ℕ → TierRuns) → Use → Tier × ℕ → Type 0
HasBlockFor rewritten x m u b = (rewritten u.inode ≡ true) × (block_by (x u.inode) (m u.inode) u.tier u.logical ≡ Some b)

-- No block has two of these uses.
abbrev pub TakeOnce : (ℕ → Bool) → (ℕ → Slot) → (ℕ → TierRuns) → Type 0
TakeOnce rewritten x m = (u v : Use) (b : Tier × ℕ) → HasBlockFor rewritten x m u b → HasBlockFor rewritten x m v b → u ≡ v

-- Each use is one that the inode had before, or of a block that was free.
abbrev pub KeepOrTakeFree : Sizes → (ℕ → Bool) → Store → (ℕ → Slot) → (ℕ → TierRuns) → Type 0
KeepOrTakeFree g rewritten s x m = (u : Use) (b : Tier × ℕ) → HasBlockFor rewritten x m u b → (used_block g s u ≡ Some b) ⊎ Free g s b.0 b.1

-- No block that was free has two of these uses.
abbrev pub TakeFreeOnce : Sizes → (ℕ → Bool) → Store → (ℕ → Slot) → (ℕ → TierRuns) → Type 0
TakeFreeOnce g rewritten s x m = (u v : Use) (b : Tier × ℕ) → Free g s b.0 b.1 → HasBlockFor rewritten x m u b → HasBlockFor rewritten x m v b → u ≡ v

-- These inodes are written anew, each with its slot and its runs, in blocks that were free or theirs; all other blocks of the pools, the slots of the others and the superblock stay.
pub record AreWrittenAnew (g : Sizes) (rewritten : ℕ → Bool) (x : ℕ → Slot) (m : ℕ → TierRuns) (old new : Store) : Type 0 where
  pub superblock : new tiers.Fast SUPER_BLOCK ≡ old tiers.Fast SUPER_BLOCK
  pub marks : IsSome (marks new)
  pub inodes : (i : ℕ) → rewritten i ≡ true → is_inode i ≡ true
  pub fit : (i : ℕ) → rewritten i ≡ true → IsFit g (x i) (m i)
  pub written : (i : ℕ) → rewritten i ≡ true → IsWritten new i (x i) (m i)
  pub slots_stay : (i : ℕ) → is_inode i ≡ true → rewritten i ≡ false → slot_bytes new i ≡ slot_bytes old i
  pub blocks_stay : (t : Tier) (k : ℕ) → IsRoom g t k → (MayTake g rewritten old (t, k) → ⊥) → new t k ≡ old t k
  pub takes : (u : Use) (b : Tier × ℕ) → HasBlockFor rewritten x m u b → MayTake g rewritten old b
  pub apart : TakeOnce rewritten x m
