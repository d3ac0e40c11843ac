-- What is to be written of an inode for a change of it: its slot and its blocks.
use Rattle.std.specs.Prelude.{◌≡◌, ℕ, ◌<◌, Some}
use Rattle.graph_change.specs.file_graph.declared.effect.Kind.TheVariants as kind
use Rattle.graph_change.specs.Bytes.{length_after}
use Rattle.graph_change.specs.Net.{names_after}
use Rattle.graph_change.specs.Change.{Change}
use Rattle.tree_blocks.specs.Inode.{Inode, blocks_for}
use Rattle.tree_blocks.specs.After.{IsDirectoryAfter}
use Rattle.tree_blocks.specs.Directory.{EntryBlocks, numbered_blocks}
use Rattle.tree_blocks.specs.FileBlock.{AreWritten}

-- the slot of an inode keeps its kind, and holds how many names there are then
pub record HasNames (c : Change) (old new : Inode) : Type 0 where
  pub kind : new.kind ≡ old.kind
  pub names : new.names ≡ names_after c.names old.names

-- a file: its slot holds the new size, and its blocks are written
pub record IsFileRewritten (c : Change) (old new : Inode) : Type 0 where
  pub is_file : old.kind ≡ Some kind.File
  pub slot : HasNames c old new
  pub size : new.size ≡ length_after c.length old.size
  pub blocks : AreWritten c old.blocks new.blocks

-- the blocks of an inode are those of a directory in memory
pub record AreHeldOf (d : EntryBlocks) (x : Inode) : Type 0 where
  pub count : x.size ≡ d.count
  pub blocks : (k : ℕ) → k < blocks_for d.count → x.blocks k ≡ numbered_blocks d.blocks k

-- a directory: its slot holds the new count of entries, and its blocks are those of the changed directory in memory
pub record IsDirectoryRewritten (number : ℕ) (c : Change) (before after : EntryBlocks) (old new : Inode) : Type 0 where
  pub is_directory : old.kind ≡ Some kind.Directory
  pub slot : HasNames c old new
  pub read : AreHeldOf before old
  pub changed : IsDirectoryAfter number c.entries before.count (numbered_blocks before.blocks) after.count (numbered_blocks after.blocks)
  pub written : AreHeldOf after new
