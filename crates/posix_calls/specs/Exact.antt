-- Steps of a tree that gives each new node the lowest number that is free.
use Rattle.std.specs.Prelude.{◌≡◌, ◌≢◌, ◌⊎◌, true, ℕ, ◌<◌, ◌≤◌, None, Ok, length}
use Rattle.posix_calls.specs.Tree.{Tree, State}
use Rattle.posix_calls.specs.Query.{view_of}
use Rattle.posix_calls.specs.Part.{whole_part}
use Rattle.posix_calls.specs.Memory.{takes_memory}
use Rattle.posix_calls.specs.Operations.{IsFree, Follows, is_client, answer, makes}
use Rattle.posix_calls.specs.declared.operation.Operation.{Operation}
use Rattle.posix_calls.specs.declared.call.Call.{Call}
use Rattle.posix_calls.specs.declared.call.Reply.{Reply}
use Rattle.posix_calls.specs.declared.call.Reply.TheVariants.{Failed}
use Rattle.posix_calls.specs.declared.errno.Errno.TheVariants as errno
use Rattle.posix_calls.specs.declared.limits.TheConstants.{ROOT, MAX_INODE, MAX_DESCRIPTORS, MAX_TRANSFER}
use Rattle.posix_calls.specs.declared.operation.Operation.TheVariants.{NewFile, OpenFile, Write}

-- the lowest number for a new node
pub record IsLowest (t : Tree) (i : ℕ) : Type 0 where
  pub free : IsFree t i
  pub lowest : (j : ℕ) → ROOT < j → j < i → t j ≢ None

-- no number is left for a new node
abbrev pub IsTaken : Tree → Type 0
IsTaken t = (i : ℕ) → ROOT < i → i ≤ MAX_INODE → t i ≢ None

-- the call was answered, and a node that it makes has the lowest number that is free
abbrev pub IsAnswered : State → ℕ → Call → Reply → State → Type 0
IsAnswered old client call r after = (new : ℕ) × ((operation : Operation) → answer old client call ≡ Ok operation → makes operation ≡ true → IsLowest old.tree new) × Follows old client new (answer old client call) r after

-- memory ran out, where the call takes memory
abbrev pub IsOutOfMemory : State → ℕ → Call → Reply → Type 0
IsOutOfMemory old client call r = (r ≡ Failed errno.NoMemory) × (is_client client ≡ true) × (takes_memory (whole_part (view_of old.tree)) (old.descriptors client) call ≡ true)

-- memory ran out, or the inode numbers for the node that the call makes; nothing changed
abbrev pub IsGivenUp : State → ℕ → Call → Reply → State → Type 0
IsGivenUp old client call r after = (IsOutOfMemory old client call r ⊎ ((r ≡ Failed errno.NoSpace) × ((operation : Operation) × (answer old client call ≡ Ok operation) × (makes operation ≡ true)) × IsTaken old.tree)) × (after ≡ old)

-- no more is written than one call may write, and what is opened has the number of a descriptor
abbrev pub IsInRange : Operation → Type 0
IsInRange (Write i at bytes) = length bytes ≤ MAX_TRANSFER
IsInRange (NewFile at number reads writes) = number < MAX_DESCRIPTORS
IsInRange (OpenFile i empties number reads writes) = number < MAX_DESCRIPTORS
IsInRange _ = Unit {0}
