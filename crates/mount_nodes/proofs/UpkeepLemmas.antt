-- Upkeep, and what it is refused for.
use Rattle.std.proofs.Common.{◌≡◌, ◌++◌, List, [], ◌∷◌, ℕ, inl, inr, refl, sym, subst, Result, Ok, Err}
use Rattle.posix_calls.specs.declared.call.Call.{Call}
use Rattle.posix_calls.specs.declared.call.Call.TheVariants as call
use Rattle.posix_calls.specs.declared.call.Flags.{Flags}
use Rattle.posix_calls.specs.declared.call.Reply.{Reply}
use Rattle.posix_calls.specs.declared.call.Reply.TheVariants as reply
use Rattle.posix_calls.specs.declared.operation.Description.{Description}
use Rattle.posix_calls.specs.declared.errno.Errno.TheVariants as errno
use Rattle.fuse_wire.specs.declared.errno.Refusal.{Refusal}
use Rattle.fuse_wire.specs.declared.errno.Refusal.TheVariants as refusal
use Rattle.mount_nodes.specs.declared.tree.Tree.{Ghosts}
use Rattle.mount_nodes.specs.Calls.{Answers, GoesOn, MayAsk, description_of, opened_of, refusal_of}
use Rattle.mount_nodes.specs.Upkeep.{IsRefusal, IsRefusedIn, IsRun, IsUpkeep, KeepsUp, Opens, Upkeep}

-- no call leads to the same tree
pub upkeep_none : {S : Type 0} (tree : Ghosts S) (s : S) → Upkeep tree s s
upkeep_none tree s = ([], refl)

-- one call
pub upkeep_once : {S : Type 0} (tree : Ghosts S) (s : S) (call : Call) (reply : Reply) (t : S) → IsUpkeep call reply → tree.asks s call reply t → Upkeep tree s t
upkeep_once tree s call reply t kind asked = ((call, reply) ∷ [], (kind, t, asked, refl))

-- one run behind another
run_then : {S : Type 0} (tree : Ghosts S) (s t u : S) (xs ys : List (Call × Reply)) → IsRun tree xs s t → IsRun tree ys t u → IsRun tree (xs ++ ys) s u
run_then tree s t u [] ys first second = subst (λ v. IsRun tree ys v u) first second
run_then tree s t u (x ∷ xs) ys (kind, v, asked, first) second = (kind, v, asked, run_then tree v t u xs ys first second)

pub upkeep_then : {S : Type 0} (tree : Ghosts S) (s t u : S) → Upkeep tree s t → Upkeep tree t u → Upkeep tree s u
upkeep_then tree s t u (xs, first) (ys, second) = (xs ++ ys, run_then tree s t u xs ys first second)

-- upkeep before a call that was refused, and behind it
pub refused_behind : {S : Type 0} (tree : Ghosts S) (e : Refusal) (s t u : S) → Upkeep tree s t → IsRefusedIn tree e t u → IsRefusedIn tree e s u
refused_behind tree e s t u kept r = record {
  before = r.before;
  asked = r.asked;
  answer = r.answer;
  after = r.after;
  first = upkeep_then tree s t r.before kept r.first;
  asks = r.asks;
  kind = r.kind;
  why = r.why;
  rest = r.rest;
}

pub refused_before : {S : Type 0} (tree : Ghosts S) (e : Refusal) (s t u : S) → IsRefusedIn tree e s t → Upkeep tree t u → IsRefusedIn tree e s u
refused_before tree e s t u r kept = record {
  before = r.before;
  asked = r.asked;
  answer = r.answer;
  after = r.after;
  first = r.first;
  asks = r.asks;
  kind = r.kind;
  why = r.why;
  rest = upkeep_then tree r.after t u r.rest kept;
}

pub refusal_behind : {S : Type 0} (tree : Ghosts S) (why : Type 0) (e : Refusal) (s t u : S) → Upkeep tree s t → IsRefusal tree why e t u → IsRefusal tree why e s u
refusal_behind tree why e s t u kept (inl (reason, more)) = inl (reason, upkeep_then tree s t u kept more)
refusal_behind tree why e s t u kept (inr r) = inr (refused_behind tree e s t u kept r)

-- a refusal for no reason of its own is one for any
pub refusal_for : {S : Type 0} (tree : Ghosts S) (why : Type 0) (e : Refusal) (s t : S) → IsRefusal tree ⊥ e s t → IsRefusal tree why e s t
refusal_for tree why e s t (inl (inl memory, kept)) = inl (inl memory, kept)
refusal_for tree why e s t (inl (inr never, kept)) = absurd never
refusal_for tree why e s t (inr r) = inr r

pub keeps_up_for : {S A : Type 0} (tree : Ghosts S) (why : Type 0) (result : Result A Refusal) (s t : S) → KeepsUp tree ⊥ result s t → KeepsUp tree why result s t
keeps_up_for tree why (Ok x) s t kept = kept
keeps_up_for tree why (Err e) s t kept = refusal_for tree why e s t kept

-- what a call that goes no further ended with
pub ended_err : {S A : Type 0} (r : Result A Refusal) (e : Refusal) (u t : S) → GoesOn Answers r (Err e) u t → (r ≡ Err e) × (t ≡ u)
ended_err (Ok x) e u t h = absurd (cc h.0)
ended_err (Err d) e u t h = (sym h.0, h.1)

ended_ok : {S A : Type 0} (r : Result A Refusal) (x : A) (u t : S) → GoesOn Answers r (Ok x) u t → (r ≡ Ok x) × (t ≡ u)
ended_ok (Ok y) x u t h = (sym h.0, h.1)
ended_ok (Err e) x u t h = absurd (cc h.0)

-- of a call by which a reply is read so that it refuses, where the reply does
pub refused_call : {S A : Type 0} (tree : Ghosts S) (call : Call) (read : Reply → Result A Refusal) (e : Refusal) (s t : S) → ((r : Reply) → read r ≡ Err e → IsUpkeep call r × (refusal_of r ≡ e)) → MayAsk tree call read Answers (Err e) s t → IsRefusal tree ⊥ e s t
refused_call tree call read e s t says (inl (same, reason)) = inl (reason, subst (λ v. Upkeep tree s v) (sym same) (upkeep_none tree s))
refused_call tree call read e s t says (inr (reply, u, asked, on)) =
    let end = ended_err (read reply) e u t on in
    let said = says reply end.0 in
    inr (record {
      before = s;
      asked = call;
      answer = reply;
      after = u;
      first = upkeep_none tree s;
      asks = asked;
      kind = said.0;
      why = said.1;
      rest = subst (λ v. Upkeep tree u v) (sym end.1) (upkeep_none tree u);
    })

pub done_call : {S A : Type 0} (tree : Ghosts S) (call : Call) (read : Reply → Result A Refusal) (x : A) (s t : S) → MayAsk tree call read Answers (Ok x) s t → (r : Reply) × (read r ≡ Ok x) × tree.asks s call r t
done_call tree call read x s t (inl (same, never)) = absurd never
done_call tree call read x s t (inr (reply, u, asked, on)) =
    let end = ended_ok (read reply) x u t on in
    (reply, end.0, subst (λ v. tree.asks s call reply v) (sym end.1) asked)

-- the replies to `Open`
open_refused : (path : List ℕ) (flags : Flags) (e : Refusal) (r : Reply) → opened_of r ≡ Err e → IsUpkeep (call.Open path flags) r × (refusal_of r ≡ e)
open_refused path flags e (reply.Opened d) h = absurd (cc h)
open_refused path flags e reply.Done h = (inr refl, cc h)
open_refused path flags e (reply.Read bytes) h = (inr refl, cc h)
open_refused path flags e (reply.Wrote count) h = (inr refl, cc h)
open_refused path flags e (reply.Listed names) h = (inr refl, cc h)
open_refused path flags e (reply.File size names) h = (inr refl, cc h)
open_refused path flags e (reply.Dir entries) h = (inr refl, cc h)
open_refused path flags e (reply.Failed errno) h = (inr refl, cc h)

open_done : (number : ℕ) (r : Reply) → opened_of r ≡ Ok number → r ≡ reply.Opened number
open_done number (reply.Opened d) h = cc h
open_done number reply.Done h = absurd (cc h)
open_done number (reply.Read bytes) h = absurd (cc h)
open_done number (reply.Wrote count) h = absurd (cc h)
open_done number (reply.Listed names) h = absurd (cc h)
open_done number (reply.File size names) h = absurd (cc h)
open_done number (reply.Dir entries) h = absurd (cc h)
open_done number (reply.Failed errno) h = absurd (cc h)

-- an `Open` that is tried behind upkeep
pub opens_behind : {S : Type 0} (tree : Ghosts S) (path : List ℕ) (flags : Flags) (result : Result ℕ Refusal) (s t u : S) → Upkeep tree s t → MayAsk tree (call.Open path flags) opened_of Answers result t u → Opens tree path flags ⊥ result s u
opens_behind tree path flags (Ok number) s t u kept asked =
    let got = done_call tree (call.Open path flags) opened_of number t u asked in
    (t, kept, subst (λ v. tree.asks t (call.Open path flags) v u) (open_done number got.0 got.1) got.2)
opens_behind tree path flags (Err e) s t u kept asked =
    refusal_behind tree ⊥ e s t u kept (refused_call tree (call.Open path flags) opened_of e t u (open_refused path flags e) asked)

-- the replies to `Stat`
stat_refused : (path : List ℕ) (e : Refusal) (r : Reply) → description_of r ≡ Err e → IsUpkeep (call.Stat path) r × (refusal_of r ≡ e)
stat_refused path e (reply.Opened d) h = (tt, cc h)
stat_refused path e reply.Done h = (tt, cc h)
stat_refused path e (reply.Read bytes) h = (tt, cc h)
stat_refused path e (reply.Wrote count) h = (tt, cc h)
stat_refused path e (reply.Listed names) h = (tt, cc h)
stat_refused path e (reply.File size names) h = absurd (cc h)
stat_refused path e (reply.Dir entries) h = absurd (cc h)
stat_refused path e (reply.Failed errno) h = (tt, cc h)

-- a `Stat` is upkeep
pub stat_keeps_up : {S : Type 0} (tree : Ghosts S) (path : List ℕ) (result : Result Description Refusal) (s t : S) → MayAsk tree (call.Stat path) description_of Answers result s t → KeepsUp tree ⊥ result s t
stat_keeps_up tree path (Ok d) s t asked =
    let got = done_call tree (call.Stat path) description_of d s t asked in
    upkeep_once tree s (call.Stat path) got.0 t tt got.2
stat_keeps_up tree path (Err e) s t asked = refused_call tree (call.Stat path) description_of e s t (stat_refused path e) asked

-- a refusal in upkeep is upkeep
pub upkeep_refused : {S : Type 0} (tree : Ghosts S) (e : Refusal) (s t : S) → IsRefusedIn tree e s t → Upkeep tree s t
upkeep_refused tree e s t r =
    upkeep_then tree s r.before t r.first (upkeep_then tree r.before r.after t (upkeep_once tree r.before r.asked r.answer r.after r.kind r.asks) r.rest)

-- too many files are open
abbrev pub too_many : Refusal
too_many = refusal.Posix errno.TooManyOpen

-- an `Open` behind upkeep that too many open files refuse
pub tried_open : {S : Type 0} (tree : Ghosts S) (path : List ℕ) (flags : Flags) (s t u : S) → Upkeep tree s t → MayAsk tree (call.Open path flags) opened_of Answers (Err too_many) t u → IsRefusedIn tree too_many s u
tried_open tree path flags s t u kept asked = elim (refused_call tree (call.Open path flags) opened_of too_many t u (open_refused path flags too_many) asked) [
  | inl reason ↦ elim reason.0 [ inl memory ↦ absurd (cc memory) | inr never ↦ absurd never ]
  | inr r ↦ refused_behind tree too_many s t u kept r
]
