-- Trusted: headline
-- What may be left of a run that was stopped.
use Rattle.std.specs.Prelude.{◌≡◌, ◌==◌, ℕ, List, [], ◌∷◌, ◌++◌, Option, Some, None, if◌then◌else◌}
use Rattle.posix_calls.specs.Tree.{State}
use Rattle.posix_calls.specs.Run.{Run, Turn, Asked, Departs, settled}
use Rattle.posix_calls.specs.declared.call.Call.{Call}

-- each client's call that is started and not answered
abbrev pub Unfinished : Type 0
Unfinished = ℕ → Option Call

-- the same, but for one client's
abbrev pub without_call : Unfinished → ℕ → Unfinished
without_call calls client c = if c == client then None else calls c

-- these turns are of such calls, each client's at most once, in any order and with any reply
abbrev pub AreSomeOf : Unfinished → List Turn → Type 0
AreSomeOf calls [] = Unit {0}
AreSomeOf calls (Asked client call reply ∷ turns) = (calls client ≡ Some call) × AreSomeOf (without_call calls client) turns
AreSomeOf calls (Departs client ∷ turns) = ⊥

-- A state is settled after the acknowledged calls and some of the unfinished ones, each of them whole.
pub record IsOutcome (opening : State) (acknowledged : List Turn) (calls : Unfinished) (left : State) : Type 0 where
  pub more : List Turn
  pub last : State
  pub some_of : AreSomeOf calls more
  pub run : Run opening (acknowledged ++ more) last
  pub settled : left ≡ settled last
