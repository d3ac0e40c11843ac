-- What someone who knows a part of a tree answers, piece by piece, and how a decision stands to its questions.
use Rattle.std.specs.Prelude.{◌≡◌, ℕ, List, [], ◌∷◌, map, Bool, true, false, not, nat_lt, Option, Some, None, Result, Ok, Err}
use Rattle.std.specs.FinMap as fin
use Rattle.std.specs.List.{list_any}
use Rattle.posix_calls.specs.Query.{Seen, File, Dir, Query, Gives, Look, ◌>>=◌}
use Rattle.posix_calls.specs.Part.{Part, Known, Unknown, run_part}
use Rattle.posix_calls.specs.Walk.{Place, entries_seen, entries_at, directory, prefix, leads_to, there, kind_at, refuse}
use Rattle.posix_calls.specs.Decide.{exchange_apart}
use Rattle.posix_calls.specs.declared.operation.Operation.{Operation}
use Rattle.posix_calls.specs.declared.errno.Errno.{Errno}
use Rattle.posix_calls.specs.declared.errno.Errno.TheVariants.{NoMemory, NotEmpty}
use Rattle.posix_calls.specs.declared.operation.DecideError.{DecideError}
use Rattle.posix_calls.specs.declared.operation.DecideError.TheVariants as why
use Rattle.posix_calls.specs.declared.operation.DecideError.TheVariants.{Refused, Memory}
use Rattle.posix_calls.specs.declared.operation.Missing.{Missing}
use Rattle.posix_calls.specs.declared.operation.Description.{Description}
use Rattle.posix_calls.specs.declared.operation.Description.TheVariants as description
use Rattle.posix_calls.specs.declared.walk.Landing.{Landing}
use Rattle.posix_calls.specs.declared.walk.Target.{Target}

-- ---- of one node

-- the inode under a name of a directory
abbrev pub entry_in : List ℕ → Option Seen → Option ℕ
entry_in name s = fin.get (entries_seen s) name

-- how many entries a directory has
abbrev pub count_in : Option Seen → ℕ
count_in s = fin.len (entries_seen s)

-- the names in a directory, in the order of their bytes
abbrev pub listed_in : Option Seen → List (List ℕ)
listed_in s = map (λ e. e.0) (fin.entries (entries_seen s))

-- what there is to say of a node
abbrev pub description_of : Option Seen → Option Description
description_of None = None
description_of (Some (File names size)) = Some (description.File size names)
description_of (Some (Dir entries)) = Some (description.Dir (fin.len entries))

-- ---- of a walk

-- the last name of a path
abbrev pub last_name : List (List ℕ) → List ℕ
last_name [] = []
last_name (name ∷ []) = name
last_name (name ∷ next ∷ names) = last_name (next ∷ names)

-- what a call needs of a place beside its name, and whether the walk went through the inode that is watched for, where one is
abbrev pub landing_of : Option ℕ → Place → Landing
landing_of watched place = record { parent = place.location.parent; inode = place.inode; entries = place.entries; passed = list_any (λ d. leads_to d watched) place.walked; is_dir = None }

-- a place by what is kept of it
abbrev pub place_at : List (List ℕ) → Landing → List ℕ → Place
place_at names to walked = record { location = record { parent = to.parent; name = last_name names }; inode = to.inode; walked = walked; entries = to.entries }

-- that of the place to which the walk along a path leads
abbrev pub landing : Option ℕ → List (List ℕ) → Query Landing
landing watched names = prefix names >>= (λ place. Gives (landing_of watched place))

-- a landing as the walk's questions give it, without what an entry said beside
abbrev pub without_kind : Result Landing DecideError → Result Landing DecideError
without_kind (Err e) = Err e
without_kind (Ok to) = Ok (record { parent = to.parent; inode = to.inode; entries = to.entries; passed = to.passed; is_dir = None })

-- what an entry said beside is so
abbrev pub HasKnownKind : Part → Landing → Type 0
HasKnownKind p to = (i : ℕ) (is_dir : Bool) → to.inode ≡ Some i → to.is_dir ≡ Some is_dir → p.is_dir i ≡ Some (Some is_dir)

-- the directory under a name of a directory
abbrev pub child_at : ℕ → List ℕ → Query ℕ
child_at dir name = Look dir (λ s. directory (entry_in name s))

-- whether a node is of the other kind than is wanted
abbrev pub other_kind : Bool → Bool → Bool
other_kind true is_dir = not is_dir
other_kind false is_dir = is_dir

-- what a path leads to, where it is a directory or a file as is wanted, and else this error
abbrev pub target : Bool → Errno → List (List ℕ) → Query Target
target wants_dir errno names = do
  place ← prefix names
  i ← there place.inode
  is_dir ← kind_at place.inode
  _ ← refuse errno (other_kind wants_dir is_dir)
  Gives (record { parent = place.location.parent; inode = i })

-- two names change nodes, where the first path is walked once both nodes are known
abbrev pub exchange_again : List (List ℕ) → Place → ℕ → ℕ → Query Operation
exchange_again names two i j = do
  one ← prefix names
  exchange_apart one two i j

-- a directory with entries is refused
abbrev pub no_entries : ℕ → Query (Unit {0})
no_entries i = do
  entries ← entries_at i
  refuse NotEmpty (nat_lt 0 (fin.len entries))

-- ---- of a decision

-- an error as the reason for no operation
abbrev pub decide_error : Errno → DecideError
decide_error NoMemory = Memory
decide_error e = Refused e

-- by what is known, a result is what the questions give, an error too, and what is missing is what they miss; want of memory says nothing
pub record IsAnswer {A : Type 0} (p : Part) (q : Query A) (result : Result A DecideError) : Type 0 where
  pub gives : (x : A) → result ≡ Ok x → run_part p q ≡ Known (Ok x)
  pub refuses : (e : Errno) → result ≡ Err (Refused e) → run_part p q ≡ Known (Err e)
  pub missing : (what : Missing) → result ≡ Err (why.Missing what) → run_part p q ≡ Unknown what
