-- What is tested of the tables' rows.
use Rattle.std.specs.Prelude.{◌≡◌, ◌≢◌, ℕ, ◌+◌, ◌<◌, ◌≤◌, ◌==◌, Some}
use Rattle.posix_calls.specs.declared.limits.TheConstants.{ROOT, MAX_INODE}
use Rattle.record_validation.specs.file_graph.Graph.{Graph}
use Rattle.record_validation.specs.file_graph.declared.effect.Kind.TheVariants.{File, Directory}
use Rattle.record_validation.specs.call_effects.Wholes.{one_if}
use Rattle.record_validation.specs.log_record.Grammar.{IsInode}
use Rattle.graph_check.specs.declared.defect.Defect.{Defect}
use Rattle.graph_check.specs.declared.defect.Defect.TheVariants as defect
use Rattle.graph_check.specs.declared.tables.Row.{Row}
use Rattle.graph_check.specs.Tables.{row_of, head_kind, stored_names}

-- what entries name as a node of a kind is one
pub record EntriesFitAt (row : Row) : Type 0 where
  pub files : 0 < row.files.count → head_kind row.head ≡ Some File
  pub directories : 0 < row.directories.count → head_kind row.head ≡ Some Directory

-- so at every place
abbrev pub EntriesFit : Graph → Type 0
EntriesFit g = (i : ℕ) → i ≤ MAX_INODE → EntriesFitAt (row_of g i)

-- the names of an inode as its row counts them
abbrev pub total_names : ℕ → Row → ℕ
total_names i row = row.files.count + row.directories.count + one_if (i == ROOT)

-- the stored count of names is the counted one, and 1 of a directory
pub record CountFitsAt (i : ℕ) (row : Row) : Type 0 where
  pub counted : stored_names row.head ≡ total_names i row
  pub one_name : head_kind row.head ≡ Some Directory → stored_names row.head ≡ 1

-- so of every inode
abbrev pub CountsFit : Graph → Type 0
CountsFit g = (i : ℕ) → IsInode i → CountFitsAt i (row_of g i)

-- the stored count of names has this defect
abbrev pub IsCountDefect : ℕ → Row → Defect → Type 0
IsCountDefect i row defect.WrongCount = stored_names row.head ≢ total_names i row
IsCountDefect i row defect.NotOneName = (head_kind row.head ≡ Some Directory) × (stored_names row.head ≢ 1)
IsCountDefect i row _ = ⊥
