-- The inodes that an operation changes, as they are known before its effects are made.
use Rattle.std.specs.Prelude.{◌≡◌, ℕ, ◌==◌, nat_lt, List, [], ◌∷◌, true, None, if◌then◌else◌}
use Rattle.posix_calls.specs.Part.{Part}
use Rattle.posix_calls.specs.declared.operation.Missing.{Missing}
use Rattle.posix_calls.specs.declared.operation.Missing.TheVariants as missing
use Rattle.log_record.specs.file_graph.Graph.{is_among}
use Rattle.posix_calls.specs.declared.operation.Operation.{Operation}
use Rattle.posix_calls.specs.declared.operation.Operation.TheVariants.{Tell, NewDir, NewFile, OpenFile, CloseFile, Write, Resize, RemoveDir, AddName, DropName, Move, Exchange}
use Rattle.posix_calls.specs.declared.operation.Replaced.{Replaced}
use Rattle.posix_calls.specs.declared.operation.Replaced.TheVariants.{Nothing, OldFile, OldDir}

-- an inode put among rising ones, unless it is one of them
abbrev pub put_in : ℕ → List ℕ → List ℕ
put_in i [] = i ∷ []
put_in i (j ∷ js) = if nat_lt j i then j ∷ put_in i js else (if j == i then j ∷ js else i ∷ j ∷ js)

-- inodes in rising order, each once
abbrev pub sorted_inodes : List ℕ → List ℕ
sorted_inodes [] = []
sorted_inodes (i ∷ is) = put_in i (sorted_inodes is)

-- the inode that a rename puts out of its place
abbrev pub replaced_inode : Replaced → List ℕ
replaced_inode Nothing = []
replaced_inode (OldFile j) = j ∷ []
replaced_inode (OldDir j) = j ∷ []

-- the inodes that an operation changes, where a new node has the number new
abbrev pub subjects_of : ℕ → Operation → List ℕ
subjects_of new (Tell answer) = []
subjects_of new (NewDir at) = sorted_inodes (new ∷ at.parent ∷ [])
subjects_of new (NewFile at number reads writes) = sorted_inodes (new ∷ at.parent ∷ [])
subjects_of new (OpenFile i empties number reads writes) = if empties then i ∷ [] else []
subjects_of new (CloseFile i number) = []
subjects_of new (Write i at bytes) = i ∷ []
subjects_of new (Resize i len) = i ∷ []
subjects_of new (RemoveDir at i) = sorted_inodes (i ∷ at.parent ∷ [])
subjects_of new (AddName at i) = sorted_inodes (i ∷ at.parent ∷ [])
subjects_of new (DropName at i) = sorted_inodes (i ∷ at.parent ∷ [])
subjects_of new (Move from to i is_dir replaced) = sorted_inodes (to.parent ∷ from.parent ∷ replaced_inode replaced)
subjects_of new (Exchange first second i j) = sorted_inodes (first.parent ∷ second.parent ∷ [])

-- what is missing is a node that an operation changes, and that a part doesn't know
pub record IsSubjectMissing (p : Part) (new : ℕ) (operation : Operation) (what : Missing) : Type 0 where
  pub inode : ℕ
  pub is : what ≡ missing.Node inode
  pub among : is_among inode (subjects_of new operation) ≡ true
  pub unknown : p.node inode ≡ None
