-- Calls that only find out something, or open and close what is there.
use Rattle.std.specs.Prelude.{◌≡◌, ◌⊎◌, ℕ, List, [], ◌∷◌, false, Option, None, Result, IsErr, IsErrAnd, MatchResult, option_and_then}
use Rattle.std.specs.FinMap as fin
use Rattle.posix_calls.specs.declared.call.Call.{Call}
use Rattle.posix_calls.specs.declared.call.Call.TheVariants as call
use Rattle.posix_calls.specs.declared.call.Flags.{Flags}
use Rattle.posix_calls.specs.declared.call.Reply.{Reply}
use Rattle.posix_calls.specs.declared.call.Reply.TheVariants as reply
use Rattle.fuse_wire.specs.declared.errno.Refusal.{Refusal}
use Rattle.mount_nodes.specs.declared.nodes.Nodes.{Nodes}
use Rattle.mount_nodes.specs.declared.tree.Tree.{Ghosts}
use Rattle.mount_nodes.specs.Calls.{opened_of, refusal_of}
use Rattle.mount_nodes.specs.Paths.{node_at, path_of}
use Rattle.mount_nodes.specs.Refusals.{IsMemory}

-- a call that is answered so leaves each file as it was
abbrev pub IsUpkeep : Call → Reply → Type 0
IsUpkeep (call.Close descriptor) r = Unit {0}
IsUpkeep (call.Stat path) r = Unit {0}
IsUpkeep (call.List path) r = Unit {0}
IsUpkeep (call.Open path flags) r = ((flags.create ≡ false) × (flags.truncate ≡ false)) ⊎ IsErr (opened_of r)
IsUpkeep c r = ⊥

module _ {S : Type 0} (tree : Ghosts S) where
  -- these calls, each of that kind, lead from one tree to another
  abbrev pub IsRun : List (Call × Reply) → S → S → Type 0
  IsRun [] s t = t ≡ s
  IsRun (x ∷ xs) s t = IsUpkeep x.0 x.1 × (u : S) × tree.asks s x.0 x.1 u × IsRun xs u t

  -- calls of that kind, and no others, lead from one tree to another
  abbrev pub Upkeep : S → S → Type 0
  Upkeep s t = (calls : List (Call × Reply)) × IsRun calls s t

  -- one of them was refused for this reason
  pub record IsRefusedIn (e : Refusal) (s t : S) : Type 0 where
    pub before : S
    pub asked : Call
    pub answer : Reply
    pub after : S
    pub first : Upkeep s before
    pub asks : tree.asks before asked answer after
    pub kind : IsUpkeep asked answer
    pub why : refusal_of answer ≡ e
    pub rest : Upkeep after t

  -- nothing but upkeep was asked, and it is refused since memory is wanting, for this reason, or as one of the calls
  abbrev pub IsRefusal : Type 0 → Refusal → S → S → Type 0
  IsRefusal why e s t = ((IsMemory e ⊎ why) × Upkeep s t) ⊎ IsRefusedIn e s t

  -- nothing but upkeep was asked
  abbrev pub KeepsUp : {A : Type 0} → Type 0 → Result A Refusal → S → S → Type 0
  KeepsUp why result s t = MatchResult result (λ _. Upkeep s t) (λ e. IsRefusal why e s t)

  -- a path is opened at last, under the descriptor
  abbrev pub Opens : List ℕ → Flags → Type 0 → Result ℕ Refusal → S → S → Type 0
  Opens path flags why result s t =
      MatchResult result (λ number. (u : S) × Upkeep s u × tree.asks u (call.Open path flags) (reply.Opened number) t) (λ e. IsRefusal why e s t)

  -- upkeep goes before, or refuses it
  abbrev pub Behind : {A : Type 0} → Type 0 → (Result A Refusal → S → S → Type 0) → Result A Refusal → S → S → Type 0
  Behind why next result s t = ((u : S) × Upkeep s u × next result u t) ⊎ IsErrAnd result (λ e. IsRefusal why e s t)

-- the node that is known under a name of a directory
abbrev pub child_at : Nodes → ℕ → List ℕ → Option ℕ
child_at nodes folder name = option_and_then (λ node. fin.get node.children name) (node_at nodes folder)

-- what is known under the name is no node, or has no path
abbrev pub IsLost : Nodes → ℕ → Type 0
IsLost nodes id = (node_at nodes id ≡ None) ⊎ (path_of nodes id ≡ None)
