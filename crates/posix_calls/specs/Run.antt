-- Trusted: headline
-- What is asked of the file tree, one after another, and what is left where nobody has a file open.
use Rattle.std.specs.Prelude.{◌≡◌, ℕ, List, [], ◌∷◌, ◌||◌, ◌==◌, nat_lt, None, if◌then◌else◌}
use Rattle.posix_calls.specs.Tree.{Tree, Descriptors, State, names_of, is_open, with_own}
use Rattle.posix_calls.specs.Operations.{Step}
use Rattle.posix_calls.specs.declared.limits.TheConstants.{ROOT}
use Rattle.posix_calls.specs.declared.call.Call.{Call}
use Rattle.posix_calls.specs.declared.call.Reply.{Reply}

-- ---- a client departs

-- one client has nothing open any more, the others have what they had
abbrev pub without_client : Descriptors → ℕ → Descriptors
without_client held client = with_own held client (λ n. None)

-- the root, and the nodes that have a name or are open
abbrev pub used_tree : Descriptors → Tree → Tree
used_tree held t i = if (i == ROOT || nat_lt 0 (names_of t i)) || is_open held i then t i else None

-- what is left of a state with these descriptors
abbrev pub left_with : Descriptors → State → State
left_with held s = record { tree = used_tree held s.tree; descriptors = held }

-- all that a client has open is closed
abbrev pub departed : State → ℕ → State
departed s client = left_with (without_client s.descriptors client) s

-- ---- runs

-- a client's call, with its reply; or that a client departs, which is never refused
pub data Turn : Type 0 where
  Asked : (client : ℕ) → (call : Call) → (reply : Reply) → Turn
  Departs : (client : ℕ) → Turn

-- a turn leads from one state to another
abbrev pub Takes : State → Turn → State → Type 0
Takes old (Asked client call reply) after = Step old client call reply after
Takes old (Departs client) after = after ≡ departed old client

-- the turns lead from one state to another
abbrev pub Run : State → List Turn → State → Type 0
Run old [] last = last ≡ old
Run old (turn ∷ turns) last = (after : State) × Takes old turn after × Run after turns last

-- the root, and the nodes that have a name
abbrev pub settled_tree : Tree → Tree
settled_tree t i = if i == ROOT || nat_lt 0 (names_of t i) then t i else None

-- what is left of a state where nobody has a file open
abbrev pub settled : State → State
settled s = record { tree = settled_tree s.tree; descriptors = λ c n. None }
