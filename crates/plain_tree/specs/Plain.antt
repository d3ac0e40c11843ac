-- The state that a plain tree stores.
use Rattle.std.specs.Prelude.{◌≡◌, ◌≢◌, ◌⊎◌, Bool, true, false, ℕ, zero, suc, ◌<◌, ◌≤◌, ◌==◌, List, [], get_or, Option, Some, None, if◌then◌else◌}
use Rattle.std.specs.FinMap as fin
use Rattle.posix_calls.specs.Tree.{Node, Tree, set_node, entries_of, names_of, Descriptors, State}
use Rattle.posix_calls.specs.Own.{set_descriptor, own_of}
use Rattle.posix_calls.specs.WellFormed.{IsBare, IsWellFormed, IsWithinLimits}
use Rattle.posix_calls.specs.Operations.{less_unused, makes, reply_of, state_after}
use Rattle.posix_calls.specs.Exact.{IsInRange, IsLowest, IsTaken}
use Rattle.posix_calls.specs.declared.operation.Location.{Location}
use Rattle.posix_calls.specs.declared.operation.Replaced.{Replaced}
use Rattle.posix_calls.specs.declared.operation.Replaced.TheVariants.{Nothing, OldFile, OldDir}
use Rattle.posix_calls.specs.declared.operation.Operation.{Operation}
use Rattle.posix_calls.specs.declared.operation.Operation.TheVariants.{Tell, NewDir, NewFile, OpenFile, CloseFile, Write, Resize, RemoveDir, AddName, DropName, Move, Exchange}
use Rattle.posix_calls.specs.declared.call.Reply.{Reply}
use Rattle.posix_calls.specs.declared.call.Reply.TheVariants.{Failed}
use Rattle.posix_calls.specs.declared.errno.Errno.TheVariants as errno
use Rattle.posix_calls.specs.declared.limits.TheConstants.{ROOT, MAX_INODE, MAX_DESCRIPTORS, MAX_NAMES, MAX_ENTRIES}
use Rattle.posix_calls.specs.declared.descriptor.Descriptor.{Descriptor}

-- the tree with these nodes, from inode 0 on
abbrev pub stored_tree : List (Option Node) → Tree
stored_tree nodes i = get_or nodes i None

-- what is open in these rows, of which the first is client 1's
abbrev pub held_of : List (List (Option Descriptor)) → Descriptors
held_of rows zero n = None
held_of rows (suc c) n = own_of (get_or rows c []) n

-- nodes, and rows of descriptors
pub record Stored : Type 0 where
  pub nodes : List (Option Node)
  pub rows : List (List (Option Descriptor))

-- the state that is stored
abbrev pub stored_state : Stored → State
stored_state s = record { tree = stored_tree s.nodes; descriptors = held_of s.rows }

-- how many names are stored for each inode, from inode 0 on
abbrev pub count_at : List ℕ → ℕ → ℕ
count_at counts i = get_or counts i 0

-- one for the inode that is meant, none for all others
abbrev pub one_for : Option ℕ → ℕ → ℕ
one_for None j = 0
one_for (Some i) j = if i == j then 1 else 0

-- for each inode is stored how many names it has in the whole tree
abbrev pub AreNameCounts : List ℕ → List (Option Node) → Type 0
AreNameCounts counts nodes = (i : ℕ) → count_at counts i ≡ names_of (stored_tree nodes) i

-- the state is well-formed, and within its limits
abbrev pub IsConsistent : State → Type 0
IsConsistent s = IsWellFormed s × IsWithinLimits s.tree

-- the table has a place for a node of this number
abbrev pub HasPlace : ℕ → Type 0
HasPlace i = (ROOT ≤ i) × (i ≤ MAX_INODE)

-- what is put out of its place has no entries
abbrev pub IsBareReplaced : Tree → Replaced → Type 0
IsBareReplaced t Nothing = Unit {0}
IsBareReplaced t (OldFile j) = IsBare (t j)
IsBareReplaced t (OldDir j) = IsBare (t j)

-- a file that is not used any more goes, and so does an empty directory
abbrev pub less_put_out : Descriptors → Tree → Replaced → Tree
less_put_out held t Nothing = t
less_put_out held t (OldFile j) = less_unused held t j
less_put_out held t (OldDir j) = set_node t j None

-- the inode under a name
abbrev pub at_location : Tree → Location → Option ℕ
at_location t at = fin.get (entries_of (t at.parent)) at.name

-- another inode is at the new name, and has no entries
abbrev pub IsReplaceable : Tree → Location → ℕ → ℕ → Type 0
IsReplaceable t to i j = (i ≢ j) × (at_location t to ≡ Some j) × IsBare (t j)

-- what is put out of its place is at the new name
abbrev pub Replaces : Tree → Location → ℕ → Replaced → Type 0
Replaces t to i Nothing = at_location t to ≡ None
Replaces t to i (OldFile j) = IsReplaceable t to i j
Replaces t to i (OldDir j) = IsReplaceable t to i j

-- an inode at one name can move to another
abbrev pub IsMovable : Tree → Location → Location → ℕ → Replaced → Type 0
IsMovable t from to i replaced = (at_location t from ≡ Some i) × Replaces t to i replaced

-- two names lead to two inodes, and the second one's directory is not over full
abbrev pub AreExchangeable : Tree → Location → Location → ℕ → ℕ → Type 0
AreExchangeable t first second i j = (i ≢ j) × (at_location t first ≡ Some i) × (at_location t second ≡ Some j) × (fin.len (entries_of (t second.parent)) ≤ MAX_ENTRIES)

-- these nodes and rows as a state
abbrev pub state_in : List (Option Node) → List (List (Option Descriptor)) → State
state_in nodes rows = stored_state (record { nodes = nodes; rows = rows })

-- ---- operations

-- an operation that closes nothing
abbrev pub IsNoClose : Operation → Type 0
IsNoClose (CloseFile i number) = ⊥
IsNoClose _ = Unit {0}

-- the descriptors with what a client opens, if it opens anything
abbrev pub with_opened : Descriptors → ℕ → Option (ℕ × Descriptor) → Descriptors
with_opened held client None = held
with_opened held client (Some (number, what)) = set_descriptor held client number (Some what)

-- what is opened has the number of a descriptor
abbrev pub HasNumber : Option (ℕ × Descriptor) → Type 0
HasNumber None = Unit {0}
HasNumber (Some (number, what)) = number < MAX_DESCRIPTORS

-- a name's directory is there, under a number that a node can have
abbrev pub IsHeld : Tree → Location → Type 0
IsHeld t at = HasPlace at.parent × (t at.parent ≢ None)

-- names come and go in directories that are there, what is written or goes has no entries, what moves can move, and what is exchanged can be
abbrev pub IsPlaced : Tree → Operation → Type 0
IsPlaced t (Tell answer) = Unit {0}
IsPlaced t (NewDir at) = IsHeld t at
IsPlaced t (NewFile at number reads writes) = IsHeld t at
IsPlaced t (OpenFile i empties number reads writes) = IsBare (t i)
IsPlaced t (CloseFile i number) = IsBare (t i)
IsPlaced t (Write i at bytes) = IsBare (t i)
IsPlaced t (Resize i len) = IsBare (t i)
IsPlaced t (RemoveDir at i) = IsHeld t at × IsBare (t i)
IsPlaced t (AddName at i) = IsHeld t at
IsPlaced t (DropName at i) = IsHeld t at × IsBare (t i)
IsPlaced t (Move from to i is_dir replaced) = IsHeld t from × IsHeld t to × IsMovable t from to i replaced
IsPlaced t (Exchange first second i j) = IsHeld t first × IsHeld t second × AreExchangeable t first second i j

-- nothing has more names than it may
abbrev pub HasFewNames : Tree → Type 0
HasFewNames t = (i : ℕ) → names_of t i ≤ MAX_NAMES

-- an operation that a call can have
abbrev pub IsDoable : Tree → Operation → Type 0
IsDoable t operation = IsInRange operation × HasFewNames t × IsPlaced t operation

-- the operation was done, and a node that it makes has the lowest number that is free
abbrev pub IsDone : State → ℕ → Operation → Reply → State → Type 0
IsDone old client operation r after = (new : ℕ) × (makes operation ≡ true → IsLowest old.tree new) × (r ≡ reply_of operation) × (after ≡ state_after client new old operation)

-- whether an operation takes memory when it is carried out
abbrev pub takes_room : Operation → Bool
takes_room (Tell answer) = false
takes_room (CloseFile i number) = false
takes_room _ = true

-- memory ran out for an operation that takes some, or the inode numbers for a new node; nothing changed
abbrev pub IsDropped : State → Operation → Reply → State → Type 0
IsDropped old operation r after = (((r ≡ Failed errno.NoMemory) × (takes_room operation ≡ true)) ⊎ ((r ≡ Failed errno.NoSpace) × (makes operation ≡ true) × IsTaken old.tree)) × (after ≡ old)
