-- One inode as its slot and its logical blocks, and the node that it is.
use Rattle.std.specs.Prelude.{◌≡◌, ◌≢◌, ℕ, ◌+◌, ◌-◌, ◌*◌, ◌/◌, ◌%◌, ◌<◌, ◌≤◌, min, List, [], length, map, get_or, Option, Some, None}
use Rattle.std.specs.List.{range_with_len}
use Rattle.std.specs.FinMap as fin
use Rattle.posix_calls.specs.Content.{Entries}
use Rattle.graph_change.specs.file_graph.declared.effect.Kind.{Kind}
use Rattle.graph_change.specs.file_graph.declared.effect.Kind.TheVariants as kind
use Rattle.graph_change.specs.file_graph.Graph.{Node, Body, FileBody, DirBody, Graph}
use Rattle.layout.specs.declared.places.TheConstants.{BLOCK}
use Rattle.layout.specs.declared.directory.TheConstants.{MAX_IN_BLOCK}
use Rattle.layout.specs.declared.directory.DirEntry.{DirEntry}
use Rattle.layout.specs.declared.slot.Slot.{Slot}
use Rattle.layout.specs.declared.slot.Slot.TheVariants as slot
use Rattle.layout.specs.Directory.{AreEntries, block_entries, entry_of}

-- the logical blocks by their numbers; one that no tier holds has no bytes, which reads as zeros
abbrev pub LogicalBlocks : Type 0
LogicalBlocks = ℕ → List ℕ

-- ---- a file: byte k stands in block k / 4,096

-- the byte at a place of a file
unfoldable pub byte_of : LogicalBlocks → ℕ → ℕ
byte_of blocks at = get_or (blocks (at / BLOCK)) (at % BLOCK) 0

-- the bytes of a file of this size
abbrev pub bytes_of_blocks : LogicalBlocks → ℕ → List ℕ
bytes_of_blocks blocks size = map (byte_of blocks) (range_with_len 0 size)

-- every byte from the size on is zero, whatever blocks there are
abbrev pub IsZeroFrom : ℕ → LogicalBlocks → Type 0
IsZeroFrom size blocks = (at : ℕ) → size ≤ at → byte_of blocks at ≡ 0

-- ---- a directory: entry e stands in block e / 56

-- a name, and the inode and its kind that it leads to
abbrev pub Entry : Type 0
Entry = List ℕ × (ℕ × Kind)

-- an entry as a block spells it
abbrev pub plain : DirEntry → Entry
plain e = (e.name, (e.inode, e.kind))

-- the entry of a number
unfoldable pub entry_at : LogicalBlocks → ℕ → Entry
entry_at blocks e = plain (entry_of (block_entries (blocks (e / MAX_IN_BLOCK))) (e % MAX_IN_BLOCK))

-- entries by their numbers, the first n, as a map by name
abbrev pub named_entries : (ℕ → Entry) → ℕ → Entries (ℕ × Kind)
named_entries entry n = fin.from_entries (map entry (range_with_len 0 n))

-- no two of the first n entries have one name
abbrev pub AreDistinct : (ℕ → Entry) → ℕ → Type 0
AreDistinct entry n = (i j : ℕ) → i < n → j < n → (entry i).0 ≡ (entry j).0 → i ≡ j

-- none of the first n entries has that name
abbrev pub IsAbsent : List ℕ → (ℕ → Entry) → ℕ → Type 0
IsAbsent name entry n = (i : ℕ) → i < n → (entry i).0 ≢ name

-- how many blocks n entries stand in
abbrev pub blocks_for : ℕ → ℕ
blocks_for n = (n + (MAX_IN_BLOCK - 1)) / MAX_IN_BLOCK

-- how many of n entries stand in block k: all blocks but the last are full
abbrev pub entries_in : ℕ → ℕ → ℕ
entries_in n k = min MAX_IN_BLOCK (n - MAX_IN_BLOCK * k)

-- what block k of a directory of n entries is
pub record IsDirectoryBlock (owner n k : ℕ) (block : List ℕ) : Type 0 where
  pub entries : AreEntries block
  pub owner_is : (block_entries block).owner ≡ owner
  pub count_is : length (block_entries block).entries ≡ entries_in n k

-- a directory of n entries: each block spells its part of them, and no two have one name
pub record AreDirectoryBlocks (owner n : ℕ) (blocks : LogicalBlocks) : Type 0 where
  pub parts : (k : ℕ) → k < blocks_for n → IsDirectoryBlock owner n k (blocks k)
  pub distinct : AreDistinct (entry_at blocks) n

-- ---- an inode

-- what its slot holds of it: the kind, how many names it has, and its size (bytes of a file, entries of a directory); and its
-- logical blocks
pub record Inode : Type 0 where
  pub kind : Option Kind
  pub names : ℕ
  pub size : ℕ
  pub blocks : LogicalBlocks

-- no names, no size and no blocks
abbrev pub blank_inode : Option Kind → Inode
blank_inode kind = record { kind = kind; names = 0; size = 0; blocks = λ k. [] }

-- a slot with the logical blocks that its roots lead to
abbrev pub inode_of : Slot → LogicalBlocks → Inode
inode_of slot.Free blocks = blank_inode None
inode_of (slot.File names size touch fast block slow) blocks = record { kind = Some kind.File; names = names; size = size; blocks = blocks }
inode_of (slot.Directory names entries touch root) blocks = record { kind = Some kind.Directory; names = names; size = entries; blocks = blocks }

abbrev pub body_of_blocks : Kind → ℕ → LogicalBlocks → Body
body_of_blocks kind.File size blocks = FileBody (bytes_of_blocks blocks size)
body_of_blocks kind.Directory size blocks = DirBody (named_entries (entry_at blocks) size)

abbrev pub node_by : Option Kind → ℕ → ℕ → LogicalBlocks → Option Node
node_by None names size blocks = None
node_by (Some k) names size blocks = Some (record { names = names; body = body_of_blocks k size blocks })

-- the node that an inode is
abbrev pub node_of : Inode → Option Node
node_of x = node_by x.kind x.names x.size x.blocks

-- the nodes that the inodes are
abbrev pub graph_of_inodes : (ℕ → Inode) → Graph
graph_of_inodes inodes i = node_of (inodes i)

-- ---- what the format asks of an inode, beside what each block alone is

abbrev pub IsConsistentBy : ℕ → Option Kind → ℕ → LogicalBlocks → Type 0
IsConsistentBy number None size blocks = Unit {0}
IsConsistentBy number (Some kind.File) size blocks = IsZeroFrom size blocks
IsConsistentBy number (Some kind.Directory) size blocks = AreDirectoryBlocks number size blocks

-- a file is zero behind its size, and a directory's blocks are its entries, each in its place
abbrev pub IsConsistent : ℕ → Inode → Type 0
IsConsistent number x = IsConsistentBy number x.kind x.size x.blocks

-- ---- inodes that read the same

abbrev pub ReadAlike : Option Kind → ℕ → LogicalBlocks → LogicalBlocks → Type 0
ReadAlike None size old new = Unit {0}
ReadAlike (Some kind.File) size old new = (at : ℕ) → byte_of new at ≡ byte_of old at
ReadAlike (Some kind.Directory) size old new = (k : ℕ) → k < blocks_for size → new k ≡ old k

-- the slots say the same, and so do the blocks as far as they are read
pub record AreAlike (old new : Inode) : Type 0 where
  pub kind : new.kind ≡ old.kind
  pub names : new.names ≡ old.names
  pub size : new.size ≡ old.size
  pub blocks : ReadAlike old.kind old.size old.blocks new.blocks
