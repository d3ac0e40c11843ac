-- What a net change makes of an inode: what its slot and its blocks are after it.
use Rattle.std.specs.Prelude.{◌≡◌, ◌≢◌, ◌⊎◌, ℕ, ◌+◌, ◌-◌, ◌<◌, nat_lt, true, false, Option, Some, None, if◌then◌else◌}
use Rattle.std.specs.FinMap as fin
use Rattle.graph_change.specs.file_graph.declared.effect.Kind.{Kind}
use Rattle.graph_change.specs.file_graph.declared.effect.Kind.TheVariants as kind
use Rattle.graph_change.specs.Bytes.{BytesChange, length_after, byte_after}
use Rattle.graph_change.specs.Net.{Base, Kept, Made, Gone, EntryChanges, Net, names_after, entries_after}
use Rattle.graph_change.specs.Change.{Changes, net_of, change_at}
use Rattle.tree_blocks.specs.Inode.{LogicalBlocks, Entry, Inode, byte_of, bytes_of_blocks, entry_at, named_entries, IsAbsent, AreDirectoryBlocks, blank_inode, AreAlike}

-- what the rest of a change starts from: the inode that was there, or one without names and blocks
abbrev pub start_node : Base → Inode → Inode
start_node Kept old = old
start_node (Made kind) old = blank_inode (Some kind)
start_node Gone old = blank_inode None

-- ---- a file

-- a file after a change of its bytes: its size, and each byte of its blocks, which are zero behind the size
pub record IsFileAfter (c : BytesChange) (old_size : ℕ) (old : LogicalBlocks) (new_size : ℕ) (new : LogicalBlocks) : Type 0 where
  pub size : new_size ≡ length_after c.length old_size
  pub bytes : (at : ℕ) → byte_of new at ≡ (if nat_lt at new_size then byte_after c (bytes_of_blocks old old_size) at else 0)

-- ---- a directory

-- a directory after a change of its entries: what stands under each name, and that its blocks are again those of a directory
pub record IsDirectoryAfter (number : ℕ) (c : EntryChanges) (old_size : ℕ) (old : LogicalBlocks) (new_size : ℕ) (new : LogicalBlocks) : Type 0 where
  pub entries : named_entries (entry_at new) new_size ≡ entries_after c (named_entries (entry_at old) old_size)
  pub directory : AreDirectoryBlocks number new_size new

-- one entry entered under a number: that of the entry which has its name, or else the one behind the last entry; all others stay
pub record IsEntered (number : ℕ) (e : Entry) (old_count : ℕ) (old : ℕ → Entry) (new_count : ℕ) (new : ℕ → Entry) : Type 0 where
  pub at_name : ((number < old_count) × ((old number).0 ≡ e.0) × (new_count ≡ old_count)) ⊎ ((number ≡ old_count) × IsAbsent e.0 old old_count × (new_count ≡ old_count + 1))
  pub there : new number ≡ e
  pub others : (i : ℕ) → i < old_count → i ≢ number → new i ≡ old i

-- the entry of a number taken out, where the last one stands then; all others stay
pub record IsTakenOut (number : ℕ) (old_count : ℕ) (old : ℕ → Entry) (new_count : ℕ) (new : ℕ → Entry) : Type 0 where
  pub inside : number < old_count
  pub count : new_count ≡ old_count - 1
  pub moved : number < old_count - 1 → new number ≡ old (old_count - 1)
  pub others : (i : ℕ) → i < old_count - 1 → i ≢ number → new i ≡ old i

-- ---- an inode

abbrev pub BodyAfter : ℕ → Option Kind → Net → Inode → Inode → Type 0
BodyAfter number None c old new = Unit {0}
BodyAfter number (Some kind.File) c old new = (new.names ≡ names_after c.names old.names) × IsFileAfter c.bytes old.size old.blocks new.size new.blocks
BodyAfter number (Some kind.Directory) c old new = (new.names ≡ names_after c.names old.names) × IsDirectoryAfter number c.entries old.size old.blocks new.size new.blocks

-- an inode of the same kind, with the names and the body after a change
pub record IsEdited (number : ℕ) (c : Net) (old new : Inode) : Type 0 where
  pub kind : new.kind ≡ old.kind
  pub body : BodyAfter number old.kind c old new

-- an inode after a net change
abbrev pub IsInodeAfter : ℕ → Net → Inode → Inode → Type 0
IsInodeAfter number c old new = IsEdited number c (start_node c.base old) new

-- ---- all inodes

-- each inode that is changed is as its change makes it, and all others read as they did
pub record AreInodesAfter (cs : Changes) (old new : ℕ → Inode) : Type 0 where
  pub changed : (i : ℕ) → fin.contains_key cs i ≡ true → IsInodeAfter i (net_of (change_at cs i)) (old i) (new i)
  pub others : (i : ℕ) → fin.contains_key cs i ≡ false → AreAlike (old i) (new i)
