-- What is checked of an inode whose slot and extents are read.
use Rattle.std.specs.Prelude.{◌≡◌, ◌+◌, ◌-◌, ◌/◌, ◌<◌, ◌*◌, ◌⊎◌, ◌↔◌, min, ℕ, List, length, true, Some, IsSome}
use Rattle.tier_device.specs.declared.media.Tier.{Tier}
use Rattle.batch_journal.specs.file_graph.declared.effect.Kind.TheVariants as kind
use Rattle.batch_journal.specs.layout.declared.error.What.{What}
use Rattle.batch_journal.specs.layout.declared.places.TheConstants.{BLOCK}
use Rattle.batch_journal.specs.layout.declared.directory.TheConstants.{MAX_IN_BLOCK}
use Rattle.batch_journal.specs.layout.Places.{Sizes, is_inode}
use Rattle.batch_journal.specs.layout.Directory.{block_entries, entry_of}
use Rattle.tree_blocks.specs.Inode.{LogicalBlocks, IsDirectoryBlock, AreDistinct, entry_at}
use Rattle.area_reader.specs.Store.{Store, logical_block, slot, length_of, extents_read, place, inode}
use Rattle.area_reader.specs.Damage.{IsSlotDamage, IsExtentDamage, IsEntryDamage, IsTailDamage}
use Rattle.area_reader.specs.Map.{in_tier, extents_in}
use Rattle.area_reader.specs.Names.{IsAmong}
use Rattle.area_reader.specs.declared.tiers.InodeExtents.{InodeExtents}

-- What is read are the extents of inode i.
abbrev pub HasFound : Sizes → Store → ℕ → InodeExtents → Type 0
HasFound g s i x = (t : Tier) → extents_read g s i t ≡ Some (extents_in (in_tier x t))

-- No two tiers map one logical block of inode i.
abbrev pub IsOnce : Sizes → Store → ℕ → Type 0
IsOnce g s i = (t u : Tier) (k : ℕ) → IsSome (place g s i t k) → IsSome (place g s i u k) → t ≡ u

-- Inode i is a file of this size.
pub record IsFileOfSize (g : Sizes) (s : Store) (i size : ℕ) : Type 0 where
  pub number : is_inode i ≡ true
  pub kind_is : (inode g s i).kind ≡ Some kind.File
  pub size_is : (inode g s i).size ≡ size
  pub blocks : length_of (slot g s i) ≡ (size + (BLOCK - 1)) / BLOCK

-- Inode i is a directory of so many entries.
pub record IsEntries (g : Sizes) (s : Store) (i entries : ℕ) : Type 0 where
  pub number : is_inode i ≡ true
  pub kind_is : (inode g s i).kind ≡ Some kind.Directory
  pub size_is : (inode g s i).size ≡ entries
  pub blocks : length_of (slot g s i) ≡ (entries + (MAX_IN_BLOCK - 1)) / MAX_IN_BLOCK

-- ---- damage of one inode

pub record IsSlotDamageOf (g : Sizes) (s : Store) (i : ℕ) (part : What) (block : ℕ) : Type 0 where
  pub damage : IsSlotDamage g s part block
  pub of_it : damage.inode ≡ i

pub record IsExtentDamageOf (g : Sizes) (s : Store) (i : ℕ) (part : What) (block : ℕ) : Type 0 where
  pub damage : IsExtentDamage g s part block
  pub of_it : damage.inode ≡ i

pub record IsEntryDamageOf (g : Sizes) (s : Store) (i : ℕ) (part : What) (block : ℕ) : Type 0 where
  pub damage : IsEntryDamage g s part block
  pub of_it : damage.inode ≡ i

pub record IsTailDamageOf (g : Sizes) (s : Store) (i : ℕ) (part : What) (block : ℕ) : Type 0 where
  pub damage : IsTailDamage g s part block
  pub of_it : damage.number ≡ i

-- A block of a directory, or its slot, shows that some entries are not there.
abbrev pub IsDirectoryDamageOf : Sizes → Store → ℕ → What → ℕ → Type 0
IsDirectoryDamageOf g s i part block = IsSlotDamageOf g s i part block ⊎ IsEntryDamageOf g s i part block

-- Damage that an inode shows by itself.
abbrev pub IsOwnDamage : Sizes → Store → ℕ → What → ℕ → Type 0
IsOwnDamage g s i part block = IsSlotDamageOf g s i part block ⊎ IsExtentDamageOf g s i part block ⊎ IsEntryDamageOf g s i part block ⊎ IsTailDamageOf g s i part block

-- ---- a directory, block by block

-- Some entry of the first so many blocks has this name.
pub record HasName (blocks : LogicalBlocks) (count : ℕ) (name : List ℕ) : Type 0 where
  pub block : ℕ
  pub within : block < count
  pub entry : ℕ
  pub inside : entry < length (block_entries (blocks block)).entries
  pub same : (entry_of (block_entries (blocks block)) entry).name ≡ name

-- Some entry of a block has the name of one of the first so many blocks.
pub record HasSameName (blocks : LogicalBlocks) (count : ℕ) (block : List ℕ) : Type 0 where
  pub entry : ℕ
  pub inside : entry < length (block_entries block).entries
  pub other : HasName blocks count (entry_of (block_entries block) entry).name

-- The first so many blocks of a directory are its parts, no two of their entries have one name, and these are the names.
pub record AreFirstParts (g : Sizes) (s : Store) (i entries count : ℕ) (names : List (List ℕ)) : Type 0 where
  pub parts : (k : ℕ) → k < count → IsDirectoryBlock i entries k (logical_block g s i k)
  pub distinct : AreDistinct (entry_at (logical_block g s i)) (min entries (MAX_IN_BLOCK * count))
  pub all : (name : List ℕ) → IsAmong names name ↔ HasName (logical_block g s i) count name

-- Inode i is a directory, and some block is its part of the entries: their names are held in memory.
pub record HasPart (g : Sizes) (s : Store) (i : ℕ) : Type 0 where
  pub kind_is : (inode g s i).kind ≡ Some kind.Directory
  pub number : ℕ
  pub within : number < length_of (slot g s i)
  pub part : IsDirectoryBlock i (inode g s i).size number (logical_block g s i number)
