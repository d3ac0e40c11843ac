-- Trusted: headline
-- The file tree, and the files that its clients have open.
use Rattle.std.specs.Prelude.{ℕ, zero, suc, ◌+◌, ◌-◌, List, [], count_by, Bool, false, ◌||◌, ◌==◌, Option, Some, None, if◌then◌else◌}
use Rattle.std.specs.FinMap as fin
use Rattle.posix_calls.specs.Content.{Entries}
use Rattle.posix_calls.specs.declared.descriptor.Descriptor.{Descriptor}
use Rattle.posix_calls.specs.declared.limits.TheConstants.{MAX_INODE, MAX_CLIENTS, MAX_DESCRIPTORS}

-- a file has bytes, a directory has an inode under each name
pub data Node : Type 0 where
  File : (bytes : List ℕ) → Node
  Dir : (entries : Entries ℕ) → Node

-- the node at each inode, if there is one
abbrev pub Tree : Type 0
Tree = ℕ → Option Node

-- a tree with one node changed
abbrev pub set_node : Tree → ℕ → Option Node → Tree
set_node t i x j = if j == i then x else t j

-- the bytes of a file; what is none has none
abbrev pub bytes_of : Option Node → List ℕ
bytes_of None = []
bytes_of (Some (File bytes)) = bytes
bytes_of (Some (Dir entries)) = []

-- the entries of a directory; what is none has none
abbrev pub entries_of : Option Node → Entries ℕ
entries_of None = fin.empty
entries_of (Some (File bytes)) = fin.empty
entries_of (Some (Dir entries)) = entries

-- ---- descriptors

-- what one client has open at each number
abbrev pub Own : Type 0
Own = ℕ → Option Descriptor

-- what each client has open
abbrev pub Descriptors : Type 0
Descriptors = ℕ → Own

-- one client's descriptors with one number changed
abbrev pub set_own : Own → ℕ → Option Descriptor → Own
set_own own number what n = if n == number then what else own n

-- the descriptors with those of one client changed
abbrev pub with_own : Descriptors → ℕ → Own → Descriptors
with_own held client own c n = if c == client then own n else held c n

-- a tree and what is open of it
pub record State : Type 0 where
  pub tree : Tree
  pub descriptors : Descriptors

-- ---- sums over the numbers from 1 on

-- whether one of the numbers from 1 to n passes
unfoldable pub any_up_to : ℕ → (ℕ → Bool) → Bool
any_up_to zero p = false
any_up_to (suc n) p = p (suc n) || any_up_to n p

-- the sum over the numbers from 1 to n
unfoldable pub sum_up_to : ℕ → (ℕ → ℕ) → ℕ
sum_up_to zero f = 0
sum_up_to (suc n) f = f (suc n) + sum_up_to n f

-- how many entries of a node name an inode
abbrev pub names_in : ℕ → Option Node → ℕ
names_in i None = 0
names_in i (Some (File bytes)) = 0
names_in i (Some (Dir entries)) = count_by (λ e. e.1 == i) (fin.entries entries)

-- how many names an inode has in the whole tree
unfoldable pub names_of : Tree → ℕ → ℕ
names_of t i = sum_up_to MAX_INODE (λ d. names_in i (t d))

-- whether a descriptor is of an inode
abbrev pub refers_to : ℕ → Option Descriptor → Bool
refers_to i None = false
refers_to i (Some d) = d.inode == i

-- whether a client has an inode open; numbers of descriptors are from 0 on
abbrev pub has_open : Own → ℕ → Bool
has_open own i = any_up_to MAX_DESCRIPTORS (λ n. refers_to i (own (n - 1)))

-- whether some client has an inode open
unfoldable pub is_open : Descriptors → ℕ → Bool
is_open held i = any_up_to MAX_CLIENTS (λ c. has_open (held c) i)
