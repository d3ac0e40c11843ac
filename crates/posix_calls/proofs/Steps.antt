-- What one step determines, and how runs are put together.
use Rattle.std.proofs.Common.{◌≡◌, inl, inr, ℕ, List, [], ◌∷◌, ◌++◌, ◌==◌, Bool, true, false, refl, Ok, Err, Result, ap, sym, ◌∙◌, subst, cond}
use Rattle.std.proofs.lemmas.Bool.Decides.{eqb_tells}
use Rattle.posix_calls.specs.Tree.{Descriptors, State, with_own}
use Rattle.posix_calls.specs.declared.operation.Operation.{Operation}
use Rattle.posix_calls.specs.declared.operation.Operation.TheVariants.{Tell, NewDir, NewFile, OpenFile, CloseFile, Write, Resize, RemoveDir, AddName, DropName, Move, Exchange}
use Rattle.posix_calls.specs.Operations.{makes, reply_of, state_after, answer, Follows, Step}
use Rattle.posix_calls.specs.Run.{Turn, Run}
use Rattle.posix_calls.specs.declared.errno.Errno.{Errno}
use Rattle.posix_calls.specs.declared.call.Call.{Call}
use Rattle.posix_calls.specs.declared.call.Reply.{Reply}
use Rattle.posix_calls.specs.declared.call.Reply.TheVariants as reply

-- an answer has one reply
pub reply_same : (old : State) (client i j : ℕ) (a : Result Operation Errno) (r s : Reply) (n m : State) → Follows old client i a r n → Follows old client j a s m → r ≡ s
reply_same old client i j (Err e) r s n m f g = f.0 ∙ sym g.0
reply_same old client i j (Ok operation) r s n m f g = f.1 ∙ sym g.1

-- and, for each number of a new node, one state
pub state_same : (old : State) (client i : ℕ) (a : Result Operation Errno) (r s : Reply) (n m : State) → Follows old client i a r n → Follows old client i a s m → n ≡ m
state_same old client i (Err e) r s n m f g = f.1 ∙ sym g.1
state_same old client i (Ok operation) r s n m f g = f.2 ∙ sym g.2

-- where no node is made, the number does not matter
pub number_unused : (old : State) (client i j : ℕ) (operation : Operation) → makes operation ≡ false → state_after client i old operation ≡ state_after client j old operation
number_unused old client i j (Tell answer) e = refl
number_unused old client i j (NewDir at) e = absurd (cc)
number_unused old client i j (NewFile at number reads writes) e = absurd (cc)
number_unused old client i j (OpenFile k empties number reads writes) e = refl
number_unused old client i j (CloseFile k number) e = refl
number_unused old client i j (Write k at bytes) e = refl
number_unused old client i j (Resize k len) e = refl
number_unused old client i j (RemoveDir at k) e = refl
number_unused old client i j (AddName at k) e = refl
number_unused old client i j (DropName at k) e = refl
number_unused old client i j (Move from to k is_dir replaced) e = refl
number_unused old client i j (Exchange first second k n) e = refl

own_kept : (b : Bool) (held : Descriptors) (client c n : ℕ) → (b ≡ true → c ≡ client) → cond b (held client n) (held c n) ≡ held c n
own_kept true held client c n same = ap (λ k. held k n) (sym (same refl))
own_kept false held client c n same = refl

is_same : (c client : ℕ) → (c == client) ≡ true → c ≡ client
is_same c client e = elim (eqb_tells c client) [ inl same ↦ same.1 | inr apart ↦ absurd (let clash : true ≡ false = sym e ∙ apart.0 in cc) ]

-- a client's own descriptors put back are those that there were
pub with_same : (held : Descriptors) (client : ℕ) → with_own held client (held client) ≡ held
with_same held client = λ t c n. own_kept (c == client) held client c n (is_same c client) t

-- what is told changes nothing
pub told_changes_nothing : (old : State) (client i : ℕ) (r : Reply) → state_after client i old (Tell r) ≡ old
told_changes_nothing old client i r = ap (λ (held : Descriptors). record { tree = old.tree; descriptors = held }) (with_same old.descriptors client)

-- only an operation that tells can be answered by an error
pub failed_tells : (old : State) (client i : ℕ) (operation : Operation) (e : Errno) → reply.Failed e ≡ reply_of operation → state_after client i old operation ≡ old
failed_tells old client i (Tell r) e is = told_changes_nothing old client i r
failed_tells old client i (NewDir at) e is = absurd (cc)
failed_tells old client i (NewFile at number reads writes) e is = absurd (cc)
failed_tells old client i (OpenFile k empties number reads writes) e is = absurd (cc)
failed_tells old client i (CloseFile k number) e is = absurd (cc)
failed_tells old client i (Write k at bytes) e is = absurd (cc)
failed_tells old client i (Resize k len) e is = absurd (cc)
failed_tells old client i (RemoveDir at k) e is = absurd (cc)
failed_tells old client i (AddName at k) e is = absurd (cc)
failed_tells old client i (DropName at k) e is = absurd (cc)
failed_tells old client i (Move from to k is_dir replaced) e is = absurd (cc)
failed_tells old client i (Exchange first second k n) e is = absurd (cc)

failed_follows : (old : State) (client i : ℕ) (a : Result Operation Errno) (e : Errno) (new : State) → Follows old client i a (reply.Failed e) new → new ≡ old
failed_follows old client i (Err x) e new f = f.1
failed_follows old client i (Ok operation) e new f = f.2 ∙ failed_tells old client i operation e f.1

-- an error changes nothing
pub failed_step : (old : State) (client : ℕ) (c : Call) (e : Errno) (new : State) → Step old client c (reply.Failed e) new → new ≡ old
failed_step old client c e new (inl f) = failed_follows old client f.0 (answer old client c) e new f.1
failed_step old client c e new (inr g) = g.3

-- ---- runs

-- two runs that meet are one
pub run_joined : (turns more : List Turn) (old mid last : State) → Run old turns mid → Run mid more last → Run old (turns ++ more) last
run_joined [] more old mid last first rest = subst (λ s. Run s more last) first rest
run_joined (turn ∷ turns) more old mid last first rest = (first.0, first.1, run_joined turns more first.0 mid last first.2 rest)

-- a run comes by a state between any two calls
pub run_split : (turns more : List Turn) (old last : State) → Run old (turns ++ more) last → (mid : State) × Run old turns mid × Run mid more last
run_split [] more old last all = (old, refl, all)
run_split (turn ∷ turns) more old last all =
    let rest = run_split turns more all.0 last all.2 in
    (rest.0, (all.0, all.1, rest.1), rest.2)
