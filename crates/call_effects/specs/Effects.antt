-- The effects on a graph that a call's operation is.
use Rattle.std.specs.Prelude.{ℕ, ◌+◌, ◌-◌, List, [], ◌∷◌, ◌++◌, Bool, true, false, Option, Some, None, if◌then◌else◌}
use Rattle.posix_calls.specs.declared.operation.Location.{Location}
use Rattle.posix_calls.specs.declared.operation.Operation.{Operation}
use Rattle.posix_calls.specs.declared.operation.Operation.TheVariants.{Tell, NewDir, NewFile, OpenFile, CloseFile, Write, Resize, RemoveDir, AddName, DropName, Move, Exchange}
use Rattle.posix_calls.specs.declared.operation.Replaced.{Replaced}
use Rattle.posix_calls.specs.declared.operation.Replaced.TheVariants.{Nothing, OldFile, OldDir}
use Rattle.log_record.specs.file_graph.Graph.{Graph, Node}
use Rattle.log_record.specs.file_graph.declared.effect.Kind.{Kind}
use Rattle.log_record.specs.file_graph.declared.effect.Kind.TheVariants as kind
use Rattle.log_record.specs.file_graph.declared.effect.Effect.{Effect}
use Rattle.log_record.specs.file_graph.declared.effect.Effect.TheVariants as effect

-- the count of names that a node has stored; what is no node has none
abbrev pub stored_count : Option Node → ℕ
stored_count None = 0
stored_count (Some n) = n.names

-- the kind that is a directory, or not
abbrev pub kind_if : Bool → Kind
kind_if true = kind.Directory
kind_if false = kind.File

-- a new node of a kind, with its one name
abbrev pub make_effects : ℕ → Kind → Location → List Effect
make_effects new k at = effect.Make new k ∷ effect.Enter at.parent new k at.name ∷ effect.Names new 1 ∷ []

-- one name fewer of a file that has `names` names
abbrev pub drop_effects : Location → ℕ → ℕ → List Effect
drop_effects at i names = effect.Leave at.parent at.name ∷ effect.Names i (names - 1) ∷ []

-- a directory less, and its name
abbrev pub remove_effects : Location → ℕ → List Effect
remove_effects at i = effect.Leave at.parent at.name ∷ effect.Drop i ∷ []

-- what a rename puts out of its place; a file has `names` names
abbrev pub clear_effects : ℕ → Location → Replaced → List Effect
clear_effects names at Nothing = []
clear_effects names at (OldFile j) = drop_effects at j names
clear_effects names at (OldDir j) = remove_effects at j

-- the file that a rename puts out of its place
abbrev pub replaced_file : Replaced → Option ℕ
replaced_file Nothing = None
replaced_file (OldFile j) = Some j
replaced_file (OldDir j) = None

-- the file that gets another number of names
abbrev pub recounted_file : Operation → Option ℕ
recounted_file (AddName at i) = Some i
recounted_file (DropName at i) = Some i
recounted_file (Move from to i is_dir replaced) = replaced_file replaced
recounted_file _ = None

-- the effects of an operation, where a new node has the number new, and the file that gets another number of names has `names`
abbrev pub effects_by : ℕ → ℕ → Operation → List Effect
effects_by names new (Tell answer) = []
effects_by names new (NewDir at) = make_effects new kind.Directory at
effects_by names new (NewFile at number reads writes) = make_effects new kind.File at
effects_by names new (OpenFile i empties number reads writes) = if empties then effect.Size i 0 ∷ [] else []
effects_by names new (CloseFile i number) = []
effects_by names new (Write i at bytes) = effect.Bytes i at bytes ∷ []
effects_by names new (Resize i len) = effect.Size i len ∷ []
effects_by names new (RemoveDir at i) = remove_effects at i
effects_by names new (AddName at i) = effect.Enter at.parent i kind.File at.name ∷ effect.Names i (names + 1) ∷ []
effects_by names new (DropName at i) = drop_effects at i names
effects_by names new (Move from to i is_dir replaced) = clear_effects names to replaced ++ (effect.Leave from.parent from.name ∷ effect.Enter to.parent i (kind_if is_dir) to.name ∷ [])
effects_by names new (Exchange first second i j) = effect.Swap first.parent first.name second.parent second.name ∷ []

-- the count of names that a file has stored, if there is one to ask for
abbrev pub stored_at : Graph → Option ℕ → ℕ
stored_at g None = 0
stored_at g (Some i) = stored_count (g i)

-- the effects of an operation over a graph, where a new node has the number new
abbrev pub effects_of : Graph → ℕ → Operation → List Effect
effects_of g new operation = effects_by (stored_at g (recounted_file operation)) new operation
