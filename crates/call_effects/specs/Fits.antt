-- When an operation is one that a call may have over a graph and descriptors.
use Rattle.std.specs.Prelude.{◌≡◌, ◌≢◌, ℕ, ◌<◌, ◌≤◌, List, false, ◌&&◌, not, ◌==◌, Some, None, Ok}
use Rattle.std.specs.FinMap as fin
use Rattle.posix_calls.specs.Content.{Entries}
use Rattle.posix_calls.specs.Tree.{Tree, set_node, Descriptors, Own, is_open}
use Rattle.posix_calls.specs.declared.descriptor.Descriptor.{Descriptor}
use Rattle.posix_calls.specs.Resolve.{resolve}
use Rattle.posix_calls.specs.declared.limits.TheConstants.{ROOT, MAX_INODE, MAX_DESCRIPTORS}
use Rattle.posix_calls.specs.declared.operation.Location.{Location}
use Rattle.posix_calls.specs.declared.operation.Operation.{Operation}
use Rattle.posix_calls.specs.declared.operation.Operation.TheVariants.{Tell, NewDir, NewFile, OpenFile, CloseFile, Write, Resize, RemoveDir, AddName, DropName, Move, Exchange}
use Rattle.posix_calls.specs.declared.operation.Replaced.{Replaced}
use Rattle.posix_calls.specs.declared.operation.Replaced.TheVariants.{Nothing, OldFile, OldDir}
use Rattle.log_record.specs.file_graph.Graph.{Graph, FileBody, DirBody}
use Rattle.log_record.specs.file_graph.declared.effect.Kind.{Kind}
use Rattle.log_record.specs.file_graph.declared.effect.Kind.TheVariants as kind
use Rattle.call_effects.specs.Effects.{kind_if}
use Rattle.call_effects.specs.Wholes.{state_of}

-- the number of a node that can be made
pub record IsNew (g : Graph) (i : ℕ) : Type 0 where
  pub low : ROOT < i
  pub high : i ≤ MAX_INODE
  pub none : g i ≡ None

-- a name that is free in a directory
pub record IsRoom (g : Graph) (at : Location) : Type 0 where
  pub names : ℕ
  pub entries : Entries (ℕ × Kind)
  pub is : g at.parent ≡ Some (record { names = names; body = DirBody entries })
  pub none : fin.get entries at.name ≡ None

-- a name of a node in a directory
pub record IsEntry (g : Graph) (at : Location) (e : ℕ × Kind) : Type 0 where
  pub names : ℕ
  pub entries : Entries (ℕ × Kind)
  pub is : g at.parent ≡ Some (record { names = names; body = DirBody entries })
  pub there : fin.get entries at.name ≡ Some e

-- a file that has a name, or that someone has open
pub record IsUsedFile (g : Graph) (held : Descriptors) (i : ℕ) : Type 0 where
  pub names : ℕ
  pub bytes : List ℕ
  pub is : g i ≡ Some (record { names = names; body = FileBody bytes })
  pub used : (names == 0 && not (is_open held i)) ≡ false

-- a file that has no name, and that nobody has open
pub record IsUnusedFile (g : Graph) (held : Descriptors) (i : ℕ) : Type 0 where
  pub bytes : List ℕ
  pub is : g i ≡ Some (record { names = 0; body = FileBody bytes })
  pub closed : is_open held i ≡ false

-- a directory without entries
pub record IsEmptyDir (g : Graph) (i : ℕ) : Type 0 where
  pub names : ℕ
  pub entries : Entries (ℕ × Kind)
  pub is : g i ≡ Some (record { names = names; body = DirBody entries })
  pub none : fin.len entries ≡ 0

-- what a rename puts out of its place is another node there, of this kind
abbrev pub FitsReplaced : Graph → Descriptors → Location → ℕ → Replaced → Type 0
FitsReplaced g held to i Nothing = IsRoom g to
FitsReplaced g held to i (OldFile j) = (i ≢ j) × IsEntry g to (j, kind.File) × IsUsedFile g held j
FitsReplaced g held to i (OldDir j) = (i ≢ j) × IsEntry g to (j, kind.Directory) × IsEmptyDir g j

-- a path leads from the root to this node, and would also if that other one weren't there
pub record IsClear (t : Tree) (other i : ℕ) : Type 0 where
  pub apart : i ≢ other
  pub path : List (List ℕ)
  pub leads : resolve (set_node t other None) path ≡ Ok i

-- two names of two nodes, of whatever kinds, of which neither is above the directory of the other's name
pub record ExchangeFits (g : Graph) (held : Descriptors) (first second : Location) (i j : ℕ) : Type 0 where
  pub apart : i ≢ j
  pub one : Kind
  pub two : Kind
  pub first_is : IsEntry g first (i, one)
  pub second_is : IsEntry g second (j, two)
  pub clear_first : IsClear ((state_of g held).tree) j first.parent
  pub clear_second : IsClear ((state_of g held).tree) i second.parent

-- a number of a descriptor at which nothing is open
pub record IsNumber (own : Own) (number : ℕ) : Type 0 where
  pub low : number < MAX_DESCRIPTORS
  pub none : own number ≡ None

-- a descriptor of this inode
pub record IsHeld (own : Own) (number i : ℕ) : Type 0 where
  pub what : Descriptor
  pub is : own number ≡ Some what
  pub inode : what.inode ≡ i

-- an operation of a client with these descriptors is possible as it stands
abbrev pub OperationFits : Graph → Descriptors → Own → Operation → Type 0
OperationFits g held own (Tell answer) = Unit {0}
OperationFits g held own (NewDir at) = IsRoom g at
OperationFits g held own (NewFile at number reads writes) = IsRoom g at × IsNumber own number
OperationFits g held own (OpenFile i empties number reads writes) = IsUsedFile g held i × IsNumber own number
OperationFits g held own (CloseFile i number) = IsUsedFile g held i × IsHeld own number i
OperationFits g held own (Write i at bytes) = IsUsedFile g held i
OperationFits g held own (Resize i len) = IsUsedFile g held i
OperationFits g held own (RemoveDir at i) = IsEntry g at (i, kind.Directory) × IsEmptyDir g i
OperationFits g held own (AddName at i) = IsRoom g at × IsUsedFile g held i
OperationFits g held own (DropName at i) = IsEntry g at (i, kind.File) × IsUsedFile g held i
OperationFits g held own (Move from to i is_dir replaced) = IsEntry g from (i, kind_if is_dir) × IsClear ((state_of g held).tree) i to.parent × FitsReplaced g held to i replaced
OperationFits g held own (Exchange first second i j) = ExchangeFits g held first second i j
