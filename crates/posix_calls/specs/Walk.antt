-- Trusted: headline
-- The words of which the calls are made: an error, a node's parts, and the walk along a path.
use Rattle.std.specs.Prelude.{ℕ, List, [], ◌∷◌, Bool, true, false, ◌==◌, nat_le, Option, Some, None, Result, Ok, Err}
use Rattle.std.specs.FinMap as fin
use Rattle.posix_calls.specs.Content.{Entries}
use Rattle.posix_calls.specs.Query.{Seen, File, Dir, Query, Gives, Refuses, IsDir, Look, ◌>>=◌}
use Rattle.posix_calls.specs.declared.limits.TheConstants.{ROOT, MAX_ENTRIES}
use Rattle.posix_calls.specs.declared.operation.Location.{Location}
use Rattle.posix_calls.specs.declared.errno.Errno.{Errno}
use Rattle.posix_calls.specs.declared.errno.Errno.TheVariants as errno

-- this error, where the test holds
abbrev pub refuse : Errno → Bool → Query (Unit {0})
refuse e true = Refuses e
refuse e false = Gives tt

-- what was read, or why it was not
abbrev pub read_or_error : {A : Type 0} → Result A Errno → Query A
read_or_error (Ok x) = Gives x
read_or_error (Err e) = Refuses e

-- ---- nodes

-- the entries of a directory; what is none has none
abbrev pub entries_seen : Option Seen → Entries ℕ
entries_seen None = fin.empty
entries_seen (Some (File names size)) = fin.empty
entries_seen (Some (Dir entries)) = entries

-- the entries of the directory at an inode
abbrev pub entries_at : ℕ → Query (Entries ℕ)
entries_at i = Look i (λ s. Gives (entries_seen s))

-- how many bytes a file has
abbrev pub size_seen : Option Seen → ℕ
size_seen None = 0
size_seen (Some (File names size)) = size
size_seen (Some (Dir entries)) = 0

-- how many bytes the file at an inode has
abbrev pub size_at : ℕ → Query ℕ
size_at i = Look i (λ s. Gives (size_seen s))

-- how many names a file has
abbrev pub names_seen : Option Seen → ℕ
names_seen None = 0
names_seen (Some (File names size)) = names
names_seen (Some (Dir entries)) = 0

-- how many names the file at an inode has
abbrev pub names_at : ℕ → Query ℕ
names_at i = Look i (λ s. Gives (names_seen s))

-- what is not there is no directory
abbrev pub is_true : Option Bool → Bool
is_true None = false
is_true (Some b) = b

-- whether there is a directory
abbrev pub kind_at : Option ℕ → Query Bool
kind_at None = Gives false
kind_at (Some i) = IsDir i (λ o. Gives (is_true o))

-- ---- the walk along a path

-- where a path leads: a name, the inode there, the directories walked, and how many entries the last of them has
pub record Place : Type 0 where
  pub location : Location
  pub inode : Option ℕ
  pub walked : List ℕ
  pub entries : ℕ

-- the root is no directory's entry
abbrev pub root_place : Place
root_place = record { location = record { parent = 0; name = [] }; inode = Some ROOT; walked = []; entries = 0 }

-- a directory is walked through, a file is not
abbrev pub directory_if : ℕ → Option Bool → Query ℕ
directory_if i None = Refuses errno.NoEntry
directory_if i (Some false) = Refuses errno.NotDirectory
directory_if i (Some true) = Gives i

-- the directory that a component leads to
abbrev pub directory : Option ℕ → Query ℕ
directory None = Refuses errno.NoEntry
directory (Some i) = IsDir i (directory_if i)

-- the walk from a directory to the parent of the last name; `way` is what was walked before
unfoldable pub walk : ℕ → List ℕ → List (List ℕ) → Query Place
walk dir way [] = Gives root_place
walk dir way (name ∷ []) = do
  entries ← entries_at dir
  Gives (record { location = record { parent = dir; name = name }; inode = fin.get entries name; walked = dir ∷ way; entries = fin.len entries })
walk dir way (name ∷ next ∷ names) = do
  entries ← entries_at dir
  child ← directory (fin.get entries name)
  walk child (dir ∷ way) (next ∷ names)

-- the walk from the root
abbrev pub prefix : List (List ℕ) → Query Place
prefix names = walk ROOT [] names

-- whether a path is `/`
abbrev pub is_root : List (List ℕ) → Bool
is_root [] = true
is_root (name ∷ names) = false

-- whether something is there
abbrev pub is_there : Option ℕ → Bool
is_there None = false
is_there (Some i) = true

-- whether this inode is there
abbrev pub leads_to : ℕ → Option ℕ → Bool
leads_to i None = false
leads_to i (Some j) = i == j

-- the inode, or an error where nothing is there
abbrev pub there : Option ℕ → Query ℕ
there None = Refuses errno.NoEntry
there (Some i) = Gives i

-- whether the directory takes no more names
abbrev pub is_full : Place → Bool
is_full place = nat_le MAX_ENTRIES place.entries
