-- One call behind another.
use Rattle.std.proofs.Common.{◌≡◌, inl, inr, refl, sym, subst, Result, Ok, Err}
use Rattle.posix_calls.specs.declared.call.Call.{Call}
use Rattle.posix_calls.specs.declared.call.Reply.{Reply}
use Rattle.fuse_wire.specs.declared.errno.Refusal.{Refusal}
use Rattle.mount_nodes.specs.declared.tree.Tree.{Ghosts}
use Rattle.mount_nodes.specs.Calls.{Answers, GoesOn, MayAsk}

goes_on : {S A B : Type 0} (next : A → Result B Refusal → S → S → Type 0) (r : Result A Refusal) (x : A) (result : Result B Refusal) (u m t : S) → GoesOn Answers r (Ok x) u m → next x result m t → GoesOn next r result u t
goes_on {A = A} next (Ok y) x result u m t h then =
    let same : x ≡ y = cc h.0 in
    subst (λ (z : A). next z result u t) same (subst (λ v. next x result v t) h.1 then)
goes_on next (Err e) x result u m t h then = absurd (cc h.0)

-- what was asked and done is followed by the rest
pub asked_then : {S A B : Type 0} (tree : Ghosts S) (call : Call) (read : Reply → Result A Refusal) (next : A → Result B Refusal → S → S → Type 0) (x : A) (result : Result B Refusal) (s m t : S) → MayAsk tree call read Answers (Ok x) s m → next x result m t → MayAsk tree call read next result s t
asked_then tree call read next x result s m t (inl h) then = absurd h.1
asked_then tree call read next x result s m t (inr (reply, u, asked, on)) then = inr (reply, u, asked, goes_on next (read reply) x result u m t on then)

ended_err : {S A : Type 0} (r : Result A Refusal) (e : Refusal) (u t : S) → GoesOn Answers r (Err e) u t → (r ≡ Err e) × (t ≡ u)
ended_err (Ok x) e u t h = absurd (cc h.0)
ended_err (Err d) e u t h = (sym h.0, h.1)

-- what was refused goes no further
pub asked_err : {S A B : Type 0} (tree : Ghosts S) (call : Call) (read : Reply → Result A Refusal) (next : A → Result B Refusal → S → S → Type 0) (e : Refusal) (s t : S) → MayAsk tree call read Answers (Err e) s t → MayAsk tree call read next (Err e) s t
asked_err tree call read next e s t (inl h) = inl h
asked_err {A = A} tree call read next e s t (inr (reply, u, asked, on)) =
    let end = ended_err (read reply) e u t on in
    let Goal : Result A Refusal → Type 0 = λ r. GoesOn next r (Err e) u t in
    inr (reply, u, asked, subst Goal (sym end.0) (refl, end.1))

-- what a reply says ends it
pub ends_so : {S A : Type 0} (r : Result A Refusal) (t : S) → GoesOn Answers r r t t
ends_so (Ok x) t = (refl, refl)
ends_so (Err e) t = (refl, refl)
