-- Trusted: headline
-- What an operation makes of a tree and its descriptors, and one step of the file tree.
use Rattle.std.specs.Prelude.{◌≡◌, ◌⊎◌, ℕ, ◌<◌, ◌≤◌, [], length, Bool, true, false, ◌&&◌, not, ◌==◌, nat_le, Some, None, Result, Ok, Err, if◌then◌else◌}
use Rattle.std.specs.FinMap as fin
use Rattle.posix_calls.specs.Content.{with_length, with_bytes}
use Rattle.posix_calls.specs.Tree.{File, Dir, Tree, set_node, bytes_of, entries_of, Own, Descriptors, set_own, with_own, State, names_of, is_open}
use Rattle.posix_calls.specs.Query.{view_of, run}
use Rattle.posix_calls.specs.declared.operation.Location.{Location}
use Rattle.posix_calls.specs.Decide.{decide}
use Rattle.posix_calls.specs.declared.operation.Replaced.{Replaced}
use Rattle.posix_calls.specs.declared.operation.Operation.{Operation}
use Rattle.posix_calls.specs.declared.operation.Operation.TheVariants.{Tell, NewDir, NewFile, OpenFile, CloseFile, Write, Resize, RemoveDir, AddName, DropName, Move, Exchange}
use Rattle.posix_calls.specs.declared.operation.Replaced.TheVariants.{Nothing, OldFile, OldDir}
use Rattle.posix_calls.specs.declared.limits.TheConstants.{ROOT, MAX_INODE, MAX_CLIENTS}
use Rattle.posix_calls.specs.declared.errno.Errno.{Errno}
use Rattle.posix_calls.specs.declared.errno.Errno.TheVariants as errno
use Rattle.posix_calls.specs.declared.call.Call.{Call}
use Rattle.posix_calls.specs.declared.call.Reply.{Reply}
use Rattle.posix_calls.specs.declared.call.Reply.TheVariants as reply

-- the tree with one more name of an inode
abbrev pub with_entry : Tree → Location → ℕ → Tree
with_entry t at i = set_node t at.parent (Some (Dir (fin.insert (entries_of (t at.parent)) at.name i)))

-- the tree with a name taken out
abbrev pub without_entry : Tree → Location → Tree
without_entry t at = set_node t at.parent (Some (Dir (fin.remove (entries_of (t at.parent)) at.name)))

-- a file that has no name, and that nobody has open, goes
abbrev pub less_unused : Descriptors → Tree → ℕ → Tree
less_unused held t i = if names_of t i == 0 && not (is_open held i) then set_node t i None else t

-- what a rename replaces goes with its name, but a file that has another or is open
abbrev pub less_replaced : Descriptors → Tree → Location → Replaced → Tree
less_replaced held t at Nothing = t
less_replaced held t at (OldFile j) = less_unused held (without_entry t at) j
less_replaced held t at (OldDir j) = set_node (without_entry t at) j None

-- the tree after an operation, where `held` is open after it, and a new node has the number new
abbrev pub tree_after : Descriptors → ℕ → Tree → Operation → Tree
tree_after held new t (Tell answer) = t
tree_after held new t (NewDir at) = with_entry (set_node t new (Some (Dir fin.empty))) at new
tree_after held new t (NewFile at number reads writes) = with_entry (set_node t new (Some (File []))) at new
tree_after held new t (OpenFile i empties number reads writes) = if empties then set_node t i (Some (File [])) else t
tree_after held new t (CloseFile i number) = less_unused held t i
tree_after held new t (Write i at bytes) = set_node t i (Some (File (with_bytes at bytes (bytes_of (t i)))))
tree_after held new t (Resize i len) = set_node t i (Some (File (with_length len (bytes_of (t i)))))
tree_after held new t (RemoveDir at i) = set_node (without_entry t at) i None
tree_after held new t (AddName at i) = with_entry t at i
tree_after held new t (DropName at i) = less_unused held (without_entry t at) i
tree_after held new t (Move from to i is_dir replaced) = with_entry (without_entry (less_replaced held t to replaced) from) to i
tree_after held new t (Exchange first second i j) = with_entry (with_entry t first j) second i

-- a client's descriptors after its operation
abbrev pub own_after : ℕ → Own → Operation → Own
own_after new own (NewFile at number reads writes) = set_own own number (Some (record { inode = new; reads = reads; writes = writes }))
own_after new own (OpenFile i empties number reads writes) = set_own own number (Some (record { inode = i; reads = reads; writes = writes }))
own_after new own (CloseFile i number) = set_own own number None
own_after new own _ = own

-- what an operation is answered
abbrev pub reply_of : Operation → Reply
reply_of (Tell answer) = answer
reply_of (NewFile at number reads writes) = reply.Opened number
reply_of (OpenFile i empties number reads writes) = reply.Opened number
reply_of (Write i at bytes) = reply.Wrote (length bytes)
reply_of _ = reply.Done

-- whether an operation makes a node
abbrev pub makes : Operation → Bool
makes (NewDir at) = true
makes (NewFile at number reads writes) = true
makes _ = false

-- all descriptors after an operation of a client
abbrev pub held_after : ℕ → ℕ → Descriptors → Operation → Descriptors
held_after client new held operation = with_own held client (own_after new (held client) operation)

-- the state after an operation of a client, where a new node has the number new
abbrev pub state_after : ℕ → ℕ → State → Operation → State
state_after client new old operation = record { tree = tree_after (held_after client new old.descriptors operation) new old.tree operation; descriptors = held_after client new old.descriptors operation }

-- the number of a node that can be made
pub record IsFree (t : Tree) (i : ℕ) : Type 0 where
  pub low : ROOT < i
  pub high : i ≤ MAX_INODE
  pub none : t i ≡ None

-- ---- one step

-- whether a client has this number
abbrev pub is_client : ℕ → Bool
is_client client = nat_le 1 client && nat_le client MAX_CLIENTS

-- the outcome of a call; who is no client is refused before all else
abbrev pub answer : State → ℕ → Call → Result Operation Errno
answer old client call = if is_client client then run (view_of old.tree) (decide (old.descriptors client) call) else Err errno.Invalid

-- the reply and the state that an answer leads to, where a new node has the number new; an error changes nothing
abbrev pub Follows : State → ℕ → ℕ → Result Operation Errno → Reply → State → Type 0
Follows old client new (Err e) r after = (r ≡ reply.Failed e) × (after ≡ old)
Follows old client new (Ok operation) r after = (makes operation ≡ true → IsFree old.tree new) × (r ≡ reply_of operation) × (after ≡ state_after client new old operation)

-- what may stand in place of any reply
abbrev pub may_give_up : Errno → Bool
may_give_up errno.NoMemory = true
may_give_up errno.IoError = true
may_give_up errno.Again = true
may_give_up errno.NoSpace = true
may_give_up _ = false

-- the call was given up, and changed nothing
abbrev pub GivesUp : State → Reply → State → Type 0
GivesUp old r after = (e : Errno) × (may_give_up e ≡ true) × (r ≡ reply.Failed e) × (after ≡ old)

-- the call may be given this reply, and lead to this state
abbrev pub Step : State → ℕ → Call → Reply → State → Type 0
Step old client call r after = ((new : ℕ) × Follows old client new (answer old client call) r after) ⊎ GivesUp old r after
