-- What the tables of a check have after the nodes of the inodes 1 to n have been read.
use Rattle.std.specs.Prelude.{◌≡◌, ℕ, zero, suc, ◌+◌, ◌*◌, ◌^◌, ◌≤◌, ◌==◌, ◌&&◌, nat_le, nat_lt, Bool, true, false, List, length, count_by, slice_index_or, Option, Some, None, option_map, if◌then◌else◌}
use Rattle.std.specs.FinMap as fin
use Rattle.posix_calls.specs.Tree.{sum_up_to}
use Rattle.posix_calls.specs.declared.limits.TheConstants.{ROOT, MAX_INODE}
use Rattle.record_validation.specs.file_graph.Graph.{Graph}
use Rattle.record_validation.specs.file_graph.declared.effect.Kind.{Kind}
use Rattle.record_validation.specs.file_graph.declared.effect.Kind.TheVariants.{File, Directory}
use Rattle.record_validation.specs.file_graph.declared.name_map.NamedEntry.{NamedEntry}
use Rattle.record_validation.specs.call_effects.NodeView.{NodeView, FileView, DirView, view_at}
use Rattle.record_validation.specs.NodeAnswers.{entries_of}
use Rattle.graph_check.specs.declared.tables.NodeHead.{NodeHead}
use Rattle.graph_check.specs.declared.tables.NameCount.{NameCount}
use Rattle.graph_check.specs.declared.tables.Tables.{Tables}
use Rattle.graph_check.specs.declared.tables.Row.{Row}

-- ---- entries

-- whether two kinds are the same
abbrev pub same_kind : Kind → Kind → Bool
same_kind File File = true
same_kind File Directory = false
same_kind Directory File = false
same_kind Directory Directory = true

-- the place of an inode in the tables, which is its number; 0 for any number that is none of an inode
abbrev pub place_of : ℕ → ℕ
place_of n = if nat_le n MAX_INODE then n else 0

-- whether an entry names a place as a node of a kind
abbrev pub names_place : Kind → ℕ → ℕ × Kind → Bool
names_place k i e = place_of e.0 == i && same_kind e.1 k

-- how many entries of a node name a place as a node of a kind
abbrev pub named_by : Kind → ℕ → Option NodeView → ℕ
named_by k i None = 0
named_by k i (Some v) = count_by (λ e. names_place k i e.1) (fin.entries (entries_of v))

-- the same of entries as they lie in memory
abbrev pub named_in : Kind → ℕ → List (NamedEntry (ℕ × Kind)) → ℕ
named_in k i es = count_by (λ e. names_place k i e.value) es

-- ---- all nodes

-- the last of the numbers from 1 to n that passes; 0 where none does
unfoldable pub last_up_to : ℕ → (ℕ → Bool) → ℕ
last_up_to zero p = 0
last_up_to (suc n) p = if p (suc n) then suc n else last_up_to n p

-- how many entries of the inodes 1 to n name a place as a node of a kind, and the last of these inodes to have one
abbrev pub name_count : Graph → ℕ → Kind → ℕ → NameCount
name_count g n k i = record {
  count = sum_up_to n (λ d. named_by k i (view_at g d));
  last = last_up_to n (λ d. nat_lt 0 (named_by k i (view_at g d)));
}

-- the count of names with more entries of an inode, in directory d
abbrev pub more_named : ℕ → ℕ → NameCount → NameCount
more_named d more old = record { count = old.count + more; last = if nat_lt 0 more then d else old.last }

-- what a node is and how many names it has stored
abbrev pub head_of : NodeView → NodeHead
head_of (FileView names size) = record { kind = File; names = names }
head_of (DirView names entries) = record { kind = Directory; names = names }

-- what stands at a place, where the inodes 1 to n have been read
abbrev pub head_at : Graph → ℕ → ℕ → Option NodeHead
head_at g n i = if nat_le ROOT i && nat_le i n then option_map head_of (view_at g i) else None

-- ---- the tables

-- a table has a value for each place
pub record IsTable {X : Type 0} (xs : List X) (f : ℕ → X) : Type 0 where
  pub places : length xs ≡ MAX_INODE + 1
  pub rows : (i : ℕ) (x : X) → i ≤ MAX_INODE → slice_index_or xs i x ≡ f i

-- the tables have a row for each place
pub record HasPlaces (t : Tables) : Type 0 where
  pub heads : length t.heads.items ≡ MAX_INODE + 1
  pub files : length t.files.items ≡ MAX_INODE + 1
  pub directories : length t.directories.items ≡ MAX_INODE + 1

-- the tables are those of the inodes 1 to n, and at most 2 ^ 32 entries of each were counted
pub record IsRead (g : Graph) (n : ℕ) (t : Tables) : Type 0 where
  pub heads : IsTable t.heads.items (head_at g n)
  pub files : IsTable t.files.items (name_count g n File)
  pub directories : IsTable t.directories.items (name_count g n Directory)
  pub few : (k : Kind) (i : ℕ) → (name_count g n k i).count ≤ n * 2 ^ 32

-- all that the tables have of a place, once all nodes have been read
abbrev pub row_of : Graph → ℕ → Row
row_of g i = record {
  head = head_at g MAX_INODE i;
  files = name_count g MAX_INODE File i;
  directories = name_count g MAX_INODE Directory i;
}

-- what stands there
abbrev pub head_kind : Option NodeHead → Option Kind
head_kind s = option_map (λ x. x.kind) s

-- the stored count of names; what is no node has none
abbrev pub stored_names : Option NodeHead → ℕ
stored_names None = 0
stored_names (Some s) = s.names
