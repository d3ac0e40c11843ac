-- What every state of a file tree has in common.
use Rattle.std.specs.Prelude.{◌≡◌, ◌≢◌, ◌⊎◌, ℕ, ◌<◌, ◌≤◌, List, length, true, false, Option, Some, None, IsSome, Ok, option_map}
use Rattle.std.specs.FinMap as fin
use Rattle.posix_calls.specs.Name.{is_name}
use Rattle.posix_calls.specs.Tree.{Node, Tree, bytes_of, entries_of, State, names_of, is_open}
use Rattle.posix_calls.specs.declared.descriptor.Descriptor.{Descriptor}
use Rattle.posix_calls.specs.Query.{dir_test}
use Rattle.posix_calls.specs.Resolve.{resolve}
use Rattle.posix_calls.specs.declared.limits.TheConstants.{ROOT, MAX_INODE, MAX_CLIENTS, MAX_DESCRIPTORS, MAX_FILE, MAX_ENTRIES, MAX_NAMES}

-- a directory stands there
abbrev pub IsDirectory : Option Node → Type 0
IsDirectory o = option_map dir_test o ≡ Some true

-- a file stands there
abbrev pub IsFile : Option Node → Type 0
IsFile o = option_map dir_test o ≡ Some false

pub record IsWellFormed (s : State) : Type 0 where
  -- the root is a directory, and has no name
  pub root : IsDirectory (s.tree ROOT)
  pub root_names : names_of s.tree ROOT ≡ 0
  -- nodes have inode numbers, and what is open has a number of a client
  pub inodes : (i : ℕ) → IsSome (s.tree i) → (ROOT ≤ i) × (i ≤ MAX_INODE)
  pub numbers : (c n : ℕ) → IsSome (s.descriptors c n) → (1 ≤ c) × (c ≤ MAX_CLIENTS) × (n < MAX_DESCRIPTORS)
  -- every entry names a node, so what is no node has no name; and what is open is a file
  pub entries : (i : ℕ) → s.tree i ≡ None → names_of s.tree i ≡ 0
  pub opened : (c n : ℕ) (o : Descriptor) → s.descriptors c n ≡ Some o → IsFile (s.tree o.inode)
  -- every other directory has exactly one name, and a path leads to it, so that none is its own ancestor
  pub one_name : (i : ℕ) → IsDirectory (s.tree i) → i ≢ ROOT → names_of s.tree i ≡ 1
  pub reached : (i : ℕ) → IsDirectory (s.tree i) → (path : List (List ℕ)) × (resolve s.tree path ≡ Ok i)
  -- a file has a name, or someone has it open
  pub used : (i : ℕ) → IsFile (s.tree i) → (0 < names_of s.tree i) ⊎ (is_open s.descriptors i ≡ true)

pub record IsWithinLimits (t : Tree) : Type 0 where
  -- no file is too large, no directory too full, and nothing has too many names
  pub sizes : (i : ℕ) → length (bytes_of (t i)) ≤ MAX_FILE
  pub entries : (i : ℕ) → fin.len (entries_of (t i)) ≤ MAX_ENTRIES
  pub names : (i : ℕ) → names_of t i ≤ MAX_NAMES
  -- every entry has a name that is one
  pub valid : (i : ℕ) (name : List ℕ) (j : ℕ) → fin.get (entries_of (t i)) name ≡ Some j → is_name name ≡ true

-- there are no entries
abbrev pub IsBare : Option Node → Type 0
IsBare o = entries_of o ≡ fin.empty
