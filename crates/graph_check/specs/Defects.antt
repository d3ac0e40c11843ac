-- What makes a graph unsound of which nobody has a file open.
use Rattle.std.specs.Prelude.{◌≡◌, ◌≢◌, ℕ, ◌+◌, ◌==◌, List, Some, Ok}
use Rattle.std.specs.FinMap as fin
use Rattle.posix_calls.specs.Content.{Entries}
use Rattle.posix_calls.specs.Tree.{names_of}
use Rattle.posix_calls.specs.Resolve.{resolve}
use Rattle.posix_calls.specs.declared.limits.TheConstants.{ROOT}
use Rattle.record_validation.specs.file_graph.Graph.{Graph, DirBody}
use Rattle.record_validation.specs.file_graph.declared.effect.Kind.{Kind}
use Rattle.record_validation.specs.file_graph.declared.effect.Kind.TheVariants.{Directory}
use Rattle.record_validation.specs.call_effects.Effects.{stored_count}
use Rattle.record_validation.specs.call_effects.Wholes.{tree_of, kind_of, one_if, IsSound}
use Rattle.record_validation.specs.call_effects.ClosedGraph.{nobody}
use Rattle.record_validation.specs.log_record.Grammar.{IsInode}
use Rattle.graph_check.specs.declared.defect.Defect.{Defect}
use Rattle.graph_check.specs.declared.defect.Defect.TheVariants as defect
use Rattle.graph_check.specs.declared.defect.GraphError.{GraphError}
use Rattle.graph_check.specs.declared.defect.GraphError.TheVariants as why

-- a directory stands at d, and an entry of it names no inode, or one without a node of the entry's kind
pub record HasStrayEntry (g : Graph) (d : ℕ) : Type 0 where
  pub names : ℕ
  pub entries : Entries (ℕ × Kind)
  pub is : g d ≡ Some (record { names = names; body = DirBody entries })
  pub name : List ℕ
  pub entry : ℕ × Kind
  pub there : fin.get entries name ≡ Some entry
  pub stray : IsInode entry.0 → kind_of (g entry.0) ≡ Some entry.1 → ⊥

-- the names of an inode as they are counted: the entries that name it, and one more of the root
abbrev pub counted_names : Graph → ℕ → ℕ
counted_names g i = names_of (tree_of g) i + one_if (i == ROOT)

-- a directory stands there
abbrev pub HasDirectory : Graph → ℕ → Type 0
HasDirectory g i = kind_of (g i) ≡ Some Directory

-- the inode has this defect
abbrev pub HasDefect : Graph → ℕ → Defect → Type 0
HasDefect g i defect.NoRoot = (i ≡ ROOT) × (HasDirectory g ROOT → ⊥)
HasDefect g i defect.StrayEntry = HasStrayEntry g i
HasDefect g i defect.WrongCount = stored_count (g i) ≢ counted_names g i
HasDefect g i defect.NotOneName = HasDirectory g i × (stored_count (g i) ≢ 1)
HasDefect g i defect.Unreachable = HasDirectory g i × ((path : List (List ℕ)) → resolve (tree_of g) path ≡ Ok i → ⊥)

-- nodes stand at inode numbers alone, which nobody can find out by asking
abbrev pub HasInodesAlone : Graph → Type 0
HasInodesAlone g = (i : ℕ) (k : Kind) → kind_of (g i) ≡ Some k → IsInode i

-- it is sound where nobody has a file open, as far as asking can find out
abbrev pub IsFoundSound : Graph → Type 0
IsFoundSound g = HasInodesAlone g → IsSound g nobody

-- where a graph is refused as unsound, this holds of the inode and the defect that are named
abbrev pub IfUnsound : {E : Type 0} → GraphError E → (ℕ → Defect → Type 0) → Type 0
IfUnsound (why.Unsound i defect) P = P i defect
IfUnsound _ P = Unit {0}

-- where memory is wanting, this holds
abbrev pub IfMemory : {E : Type 0} → GraphError E → Type 0 → Type 0
IfMemory why.Memory P = P
IfMemory _ P = Unit {0}
