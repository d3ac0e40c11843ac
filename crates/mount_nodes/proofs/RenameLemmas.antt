-- What goes before a name moves.
use Rattle.std.proofs.Common.{◌≡◌, ◌⊎◌, ◌<◌, ◌-◌, ℕ, List, inl, inr, sym, subst, length, IfErr, Result, Ok, Err}
use Rattle.posix_calls.specs.declared.call.Call.{Call}
use Rattle.posix_calls.specs.declared.call.Call.TheVariants as call
use Rattle.posix_calls.specs.declared.call.Reply.{Reply}
use Rattle.posix_calls.specs.declared.call.Reply.TheVariants as reply
use Rattle.posix_calls.specs.declared.operation.Description.{Description}
use Rattle.fuse_wire.specs.declared.errno.Refusal.{Refusal}
use Rattle.mount_nodes.specs.declared.nodes.Nodes.{Nodes}
use Rattle.mount_nodes.specs.declared.tree.Tree.{Ghosts}
use Rattle.mount_nodes.specs.Calls.{Answers, Asks, IsUnasked, MayAsk, description_of, listed_of, refusal_of}
use Rattle.mount_nodes.specs.Refusals.{IsMemory}
use Rattle.mount_nodes.specs.Renames.{CanNotGrow, HasLooked, HasTooLong, IsTooDeep, IsUnmoved, LooksBelow, Moves}
use Rattle.mount_nodes.specs.Upkeep.{Behind, IsRefusal, IsUpkeep, Upkeep}
use Rattle.mount_nodes.proofs.UpkeepLemmas.{done_call, refusal_behind, refusal_for, refused_call, upkeep_none, upkeep_once, upkeep_then}

-- ---- how long paths get

-- the replies to `List`
list_refused : (path : List ℕ) (e : Refusal) (r : Reply) → listed_of r ≡ Err e → IsUpkeep (call.List path) r × (refusal_of r ≡ e)
list_refused path e (reply.Opened d) h = (tt, cc h)
list_refused path e reply.Done h = (tt, cc h)
list_refused path e (reply.Read bytes) h = (tt, cc h)
list_refused path e (reply.Wrote count) h = (tt, cc h)
list_refused path e (reply.Listed names) h = absurd (cc h)
list_refused path e (reply.File size names) h = (tt, cc h)
list_refused path e (reply.Dir entries) h = (tt, cc h)
list_refused path e (reply.Failed errno) h = (tt, cc h)

list_done : (names : List (List ℕ)) (r : Reply) → listed_of r ≡ Ok names → r ≡ reply.Listed names
list_done names (reply.Listed found) h = cc h
list_done names (reply.Opened d) h = absurd (cc h)
list_done names reply.Done h = absurd (cc h)
list_done names (reply.Read bytes) h = absurd (cc h)
list_done names (reply.Wrote count) h = absurd (cc h)
list_done names (reply.File size all) h = absurd (cc h)
list_done names (reply.Dir entries) h = absurd (cc h)
list_done names (reply.Failed errno) h = absurd (cc h)

pub unlisted : {S : Type 0} (tree : Ghosts S) (path : List ℕ) (growth : ℕ) (e : Refusal) (s t u : S) → Upkeep tree s t → MayAsk tree (call.List path) listed_of Answers (Err e) t u → LooksBelow tree growth (Err e) s u
unlisted tree path growth e s t u kept asked = inl (refusal_behind tree ⊥ e s t u kept (refused_call tree (call.List path) listed_of e t u (list_refused path e) asked))

pub listed : {S : Type 0} (tree : Ghosts S) (path : List ℕ) (names : List (List ℕ)) (growth : ℕ) (result : Result (Unit {0}) Refusal) (s t u : S) → Upkeep tree s t → MayAsk tree (call.List path) listed_of Answers (Ok names) t u → IfErr result (λ e. IsMemory e ⊎ HasTooLong path names growth e) → LooksBelow tree growth result s u
listed tree path names growth (Ok x) s t u kept asked says =
    let got = done_call tree (call.List path) listed_of names t u asked in
    upkeep_then tree s t u kept (upkeep_once tree t (call.List path) got.0 u tt got.2)
listed tree path names growth (Err e) s t u kept asked (inl memory) =
    let got = done_call tree (call.List path) listed_of names t u asked in
    inl (inl (inl memory, upkeep_then tree s t u kept (upkeep_once tree t (call.List path) got.0 u tt got.2)))
listed tree path names growth (Err e) s t u kept asked (inr long) =
    let got = done_call tree (call.List path) listed_of names t u asked in
    inr (record {
      path = path;
      names = names;
      before = t;
      after = u;
      first = kept;
      asks = subst (λ r. tree.asks t (call.List path) r u) (list_done names got.0 got.1) got.2;
      rest = upkeep_none tree u;
      long = long;
    })

-- upkeep goes before
pub looks_behind : {S : Type 0} (tree : Ghosts S) (growth : ℕ) (result : Result (Unit {0}) Refusal) (s t u : S) → Upkeep tree s t → LooksBelow tree growth result t u → LooksBelow tree growth result s u
looks_behind tree growth (Ok x) s t u kept more = upkeep_then tree s t u kept more
looks_behind tree growth (Err e) s t u kept (inl refused) = inl (refusal_behind tree ⊥ e s t u kept refused)
looks_behind tree growth (Err e) s t u kept (inr deep) = inr (record {
  path = deep.path;
  names = deep.names;
  before = deep.before;
  after = deep.after;
  first = upkeep_then tree s t deep.before kept deep.first;
  asks = deep.asks;
  rest = deep.rest;
  long = deep.long;
})

-- what was looked at, upkeep before and behind
pub looked_behind : {S : Type 0} (tree : Ghosts S) (path : List ℕ) (s t u : S) → Upkeep tree s t → HasLooked tree path t u → HasLooked tree path s u
looked_behind tree path s t u kept looked = record {
  before = looked.before;
  answer = looked.answer;
  after = looked.after;
  first = upkeep_then tree s t looked.before kept looked.first;
  asks = looked.asks;
  rest = looked.rest;
}

pub looked_before : {S : Type 0} (tree : Ghosts S) (path : List ℕ) (s t u : S) → HasLooked tree path s t → Upkeep tree t u → HasLooked tree path s u
looked_before tree path s t u looked kept = record {
  before = looked.before;
  answer = looked.answer;
  after = looked.after;
  first = looked.first;
  asks = looked.asks;
  rest = upkeep_then tree looked.after t u looked.rest kept;
}

pub looked_kept : {S : Type 0} (tree : Ghosts S) (path : List ℕ) (s t : S) → HasLooked tree path s t → Upkeep tree s t
looked_kept tree path s t looked =
    upkeep_then tree s looked.before t looked.first (upkeep_then tree looked.before looked.after t (upkeep_once tree looked.before (call.Stat path) looked.answer looked.after tt looked.asks) looked.rest)

-- a `Stat` of a path
pub stat_looks : {S : Type 0} (tree : Ghosts S) (path : List ℕ) (d : Description) (s t : S) → MayAsk tree (call.Stat path) description_of Answers (Ok d) s t → HasLooked tree path s t
stat_looks tree path d s t asked =
    let got = done_call tree (call.Stat path) description_of d s t asked in
    record {
      before = s;
      answer = got.0;
      after = t;
      first = upkeep_none tree s;
      asks = got.2;
      rest = upkeep_none tree t;
    }

-- ---- moves

-- what was looked for refuses the move, or goes before it
pub looked_err : {S : Type 0} (tree : Ghosts S) (nodes : Nodes) (old new : ℕ × List ℕ) (from to : List ℕ) (growth : ℕ) (e : Refusal) (s t : S) → growth ≡ length to - length from → length from < length to → LooksBelow tree growth (Err e) s t → Moves tree nodes old new from to (Err e) s t
looked_err tree nodes old new from to growth e s t same grown (inl refused) = inl (inr (refusal_for tree (IsUnmoved nodes old new) e s t refused))
looked_err tree nodes old new from to growth e s t same grown (inr deep) = inr (grown, subst (λ g. IsTooDeep tree g e s t) same deep)

pub behind_more : {S A : Type 0} (tree : Ghosts S) (why : Type 0) (next : Result A Refusal → S → S → Type 0) (result : Result A Refusal) (s t u : S) → Upkeep tree s t → Behind tree why next result t u → Behind tree why next result s u
behind_more tree why next result s t u kept (inl (v, more, rest)) = inl (v, upkeep_then tree s t v kept more, rest)
behind_more tree why next (Ok x) s t u kept (inr never) = absurd never
behind_more tree why next (Err e) s t u kept (inr refused) = inr (refusal_behind tree why e s t u kept refused)

-- a refusal for one reason is one for another that follows
pub refusal_since : {S : Type 0} (tree : Ghosts S) (why then : Type 0) (e : Refusal) (s t : S) → (why → then) → IsRefusal tree why e s t → IsRefusal tree then e s t
refusal_since tree why then e s t f (inl (inl memory, kept)) = inl (inl memory, kept)
refusal_since tree why then e s t f (inl (inr reason, kept)) = inl (inr (f reason), kept)
refusal_since tree why then e s t f (inr r) = inr r

pub behind_since : {S A : Type 0} (tree : Ghosts S) (why then : Type 0) (next : Result A Refusal → S → S → Type 0) (result : Result A Refusal) (s t : S) → (why → then) → Behind tree why next result s t → Behind tree then next result s t
behind_since tree why then next result s t f (inl more) = inl more
behind_since tree why then next (Ok x) s t f (inr never) = absurd never
behind_since tree why then next (Err e) s t f (inr refused) = inr (refusal_since tree why then e s t f refused)

-- a call that is asked, or not for a reason, behind upkeep
pub asked_behind : {S A : Type 0} (tree : Ghosts S) (call : Call) (read : Reply → Result A Refusal) (why then : Type 0) (result : Result A Refusal) (s t u : S) → (why → then) → Upkeep tree s t → IsUnasked why result t u ⊎ Asks tree call read Answers result t u → Behind tree then (MayAsk tree call read Answers) result s u
asked_behind tree call read why then (Ok x) s t u f kept (inl (same, never)) = absurd never
asked_behind tree call read why then (Err e) s t u f kept (inl (same, inl memory)) = inr (inl (inl memory, subst (λ v. Upkeep tree s v) (sym same) kept))
asked_behind tree call read why then (Err e) s t u f kept (inl (same, inr reason)) = inr (inl (inr (f reason), subst (λ v. Upkeep tree s v) (sym same) kept))
asked_behind tree call read why then result s t u f kept (inr asked) = inl (t, kept, inr asked)

-- ---- exchanges

-- what was looked for below what gets a longer path refuses the exchange, behind upkeep
pub grows_not : {S : Type 0} (tree : Ghosts S) (from to : List ℕ) (growth : ℕ) (e : Refusal) (s t u : S) → growth ≡ length to - length from → length from < length to → Upkeep tree s t → LooksBelow tree growth (Err e) t u → CanNotGrow tree from to (Err e) s u
grows_not tree from to growth e s t u same grown kept looked = (grown, subst (λ g. LooksBelow tree g (Err e) s u) same (looks_behind tree growth (Err e) s t u kept looked))
