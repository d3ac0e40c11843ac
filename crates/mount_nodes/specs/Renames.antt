-- Names move.
use Rattle.std.specs.Prelude.{◌≡◌, ◌⊎◌, ◌<◌, ◌≤◌, ◌+◌, ◌-◌, ℕ, List, Contains, false, None, Result, Ok, Err, IfSome, IsSome, IsErrAnd, MatchResult, length}
use Rattle.posix_calls.specs.Name.{is_name}
use Rattle.posix_calls.specs.declared.call.Call.TheVariants as call
use Rattle.posix_calls.specs.declared.call.Reply.{Reply}
use Rattle.posix_calls.specs.declared.call.Reply.TheVariants as reply
use Rattle.posix_calls.specs.declared.errno.Errno.TheVariants as errno
use Rattle.fuse_wire.specs.declared.errno.Refusal.{Refusal}
use Rattle.fuse_wire.specs.declared.errno.Refusal.TheVariants as refusal
use Rattle.mount_nodes.specs.declared.nodes.Nodes.{Nodes}
use Rattle.mount_nodes.specs.declared.tree.Tree.{Ghosts}
use Rattle.mount_nodes.specs.Calls.{Answers, Asks, AtPath, MayAsk, done_of, refusal_of}
use Rattle.mount_nodes.specs.Paths.{path_below}
use Rattle.mount_nodes.specs.Upkeep.{Behind, IsLost, IsRefusal, Upkeep, child_at}

-- nothing is known under the old name, the new one is no name, or what is known under it has no path
abbrev pub IsUnmoved : Nodes → ℕ × List ℕ → ℕ × List ℕ → Type 0
IsUnmoved nodes old new = (child_at nodes old.0 old.1 ≡ None) ⊎ ((is_name new.1 ≡ false) ⊎ IfSome (child_at nodes new.0 new.1) (λ id. IsLost nodes id))

-- the reply to a `Stat` that is to find nothing
abbrev pub absent_of : Reply → Result (Unit {0}) Refusal
absent_of (reply.Failed errno.NoEntry) = Ok tt
absent_of (reply.File size names) = Err (refusal.Posix errno.Exists)
absent_of (reply.Dir entries) = Err (refusal.Posix errno.Exists)
absent_of reply = Err (refusal_of reply)

-- some name makes the path, grown by `growth` bytes, longer than 1,024
abbrev pub HasTooLong : List ℕ → List (List ℕ) → ℕ → Refusal → Type 0
HasTooLong path names growth e = (name : List ℕ) × Contains names name × (1024 < length path + 1 + length name + growth) × (e ≡ refusal.Posix errno.NameTooLong)

module _ {S : Type 0} (tree : Ghosts S) where
  -- a directory was listed that has such a name
  pub record IsTooDeep (growth : ℕ) (e : Refusal) (s t : S) : Type 0 where
    pub path : List ℕ
    pub names : List (List ℕ)
    pub before : S
    pub after : S
    pub first : Upkeep tree s before
    pub asks : tree.asks before (call.List path) (reply.Listed names) after
    pub rest : Upkeep tree after t
    pub long : HasTooLong path names growth e

  -- nothing but upkeep is asked, `Stat` of a path among it
  pub record HasLooked (path : List ℕ) (s t : S) : Type 0 where
    pub before : S
    pub answer : Reply
    pub after : S
    pub first : Upkeep tree s before
    pub asks : tree.asks before (call.Stat path) answer after
    pub rest : Upkeep tree after t

  -- nothing but upkeep is asked, by which no path, or one, gets too long
  abbrev pub LooksBelow : ℕ → Result (Unit {0}) Refusal → S → S → Type 0
  LooksBelow growth result s t = MatchResult result (λ _. Upkeep tree s t) (λ e. IsRefusal tree ⊥ e s t ⊎ IsTooDeep growth e s t)

  -- it is looked, where paths grow, how long those below get; a file that is open and loses its last name is opened; then `Rename` is asked
  abbrev pub Moves : Nodes → ℕ × List ℕ → ℕ × List ℕ → List ℕ → List ℕ → Result (Unit {0}) Refusal → S → S → Type 0
  Moves nodes old new from to result s t =
      Behind tree (IsUnmoved nodes old new) (MayAsk tree (call.Rename from to) done_of Answers) result s t
      ⊎ ((length from < length to) × IsErrAnd result (λ e. IsTooDeep (length to - length from) e s t))

  -- it is looked below what gets a longer path, which is refused
  abbrev pub CanNotGrow : List ℕ → List ℕ → Result (Unit {0}) Refusal → S → S → Type 0
  CanNotGrow from to result s t =
      (length from < length to) × IsErrAnd result (λ e. IsRefusal tree ⊥ e s t ⊎ IsTooDeep (length to - length from) e s t)

  -- where the paths differ in length, it is looked at the shorter one and below it; then `Exchange` is asked
  abbrev pub ExchangesPaths : List ℕ → List ℕ → Result (Unit {0}) Refusal → S → S → Type 0
  ExchangesPaths first second result s t =
      ((u : S) × Upkeep tree s u × (length first < length second → HasLooked first s u) × (length second < length first → HasLooked second s u)
      × Asks tree (call.Exchange first second) done_of Answers result u t)
      ⊎ (CanNotGrow first second result s t ⊎ CanNotGrow second first result s t)

  -- so it is with two names, where both are known
  abbrev pub Exchanges : Nodes → ℕ × List ℕ → ℕ × List ℕ → List ℕ → List ℕ → Result (Unit {0}) Refusal → S → S → Type 0
  Exchanges nodes one two first second result s t =
      (((child_at nodes one.0 one.1 ≡ None) ⊎ (child_at nodes two.0 two.1 ≡ None)) × (result ≡ Err refusal.StaleNode) × (t ≡ s))
      ⊎ (IsSome (child_at nodes one.0 one.1) × IsSome (child_at nodes two.0 two.1) × ExchangesPaths first second result s t)

  -- So the paths of two names are asked about. With the flag 1 `Stat` is to find nothing at the new one; with the flag 2 they are exchanged; flags
  -- from 3 on are invalid.
  abbrev pub Renames : Nodes → ℕ × List ℕ → ℕ × List ℕ → ℕ → Result (Unit {0}) Refusal → S → S → Type 0
  Renames nodes old new flags =
      AtPath (path_below nodes old.0 old.1) (λ from. AtPath (path_below nodes new.0 new.1) (λ to result s t.
      ((flags ≡ 0) × Moves nodes old new from to result s t)
      ⊎ (((flags ≡ 1) × MayAsk tree (call.Stat to) absent_of (λ _. Moves nodes old new from to) result s t)
      ⊎ (((flags ≡ 2) × Exchanges nodes old new from to result s t)
      ⊎ ((3 ≤ flags) × (result ≡ Err (refusal.Posix errno.Invalid)) × (t ≡ s))))))
