-- Which directories are marked as reached from the root.
use Rattle.std.specs.Prelude.{◌≡◌, ℕ, zero, suc, ◌&&◌, nat_lt, not, Bool, true, false, List, slice_index_or, count_by, Option, Some, None, if◌then◌else◌}
use Rattle.posix_calls.specs.declared.limits.TheConstants.{ROOT}
use Rattle.record_validation.specs.file_graph.Graph.{Graph}
use Rattle.record_validation.specs.file_graph.declared.effect.Kind.TheVariants.{File, Directory}
use Rattle.record_validation.specs.log_record.Grammar.{IsInode}
use Rattle.graph_check.specs.declared.tables.NodeHead.{NodeHead}
use Rattle.graph_check.specs.declared.tables.Row.{Row}
use Rattle.graph_check.specs.Tables.{row_of}

-- whether a directory stands there
abbrev pub is_directory : Option NodeHead → Bool
is_directory None = false
is_directory (Some s) = elim (s.kind) [ File ↦ false | Directory ↦ true ]

-- the last directory that has an entry of what stands there, if that is a directory
abbrev pub parent_in : Row → Option ℕ
parent_in row = if is_directory row.head && nat_lt 0 row.directories.count then Some row.directories.last else None

-- the same of an inode of a graph
abbrev pub parent : Graph → ℕ → Option ℕ
parent g i = parent_in (row_of g i)

-- whether a place is marked
abbrev pub is_marked : List Bool → ℕ → Bool
is_marked marks i = slice_index_or marks i false

-- the parent is marked
abbrev pub HasMarkedParent : Graph → List Bool → ℕ → Type 0
HasMarkedParent g marks i = (p : ℕ) × (parent g i ≡ Some p) × (is_marked marks p ≡ true)

-- this number of steps from a directory to its parent leads from i to the root
abbrev pub Climbs : Graph → ℕ → ℕ → Type 0
Climbs g zero i = i ≡ ROOT
Climbs g (suc n) i = (p : ℕ) × (parent g i ≡ Some p) × Climbs g n p

-- steps lead from each place that is marked to the root
abbrev pub AllClimb : Graph → List Bool → Type 0
AllClimb g marks = (i : ℕ) → is_marked marks i ≡ true → (n : ℕ) × Climbs g n i

-- a directory is marked where its parent is
abbrev pub IsClosedAt : Graph → List Bool → ℕ → Type 0
IsClosedAt g marks i = (p : ℕ) → parent g i ≡ Some p → is_marked marks p ≡ true → is_marked marks i ≡ true

-- so is every directory
abbrev pub IsClosed : Graph → List Bool → Type 0
IsClosed g marks = (i : ℕ) → IsInode i → IsClosedAt g marks i

-- how many places are not marked
abbrev pub unmarked_count : List Bool → ℕ
unmarked_count marks = count_by not marks
