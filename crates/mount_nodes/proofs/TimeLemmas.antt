-- Times go on over several changes.
use Rattle.std.proofs.Common.{◌≡◌, ◌⊎◌, ◌≤◌, ◌∙◌, ℕ, None, Result, Ok, Err, OnOk, arith, inl, inr, refl, subst, sym, ap}
use Rattle.mount_nodes.specs.declared.times.Stamp.{Stamp}
use Rattle.mount_nodes.specs.declared.times.Times.{Times}
use Rattle.mount_nodes.specs.Times.{Ages, BeginsAs, GoesOn, IsLater, IsNamed, IsTouched, IsWritten, Meets, Runs, StaysOrRises, stamp_at}

-- ---- one time

later_before : (a b : Times) (n : ℕ) → a.last ≤ b.last → IsLater b n → IsLater a n
later_before a b n le (inl more) = inl (omega (arith, le, more))
later_before a b n le (inr most) = inr most

later_stays : (a b c : Times) (m n : ℕ) → a.last ≤ b.last → IsLater a m → StaysOrRises b c m n → IsLater a n
later_stays a b c m n le later (inl e) = subst (λ x. IsLater a x) (sym e) later
later_stays a b c m n le later (inr more) = later_before a b n le more.0

stays_then : (a b c : Times) (k m n : ℕ) → a.last ≤ b.last → b.last ≤ c.last → StaysOrRises a b k m → StaysOrRises b c m n → StaysOrRises a c k n
stays_then a b c k m n le more (inl e) (inl f) = inl (f ∙ e)
stays_then a b c k m n le more (inr rises) (inl f) = inr (subst (λ x. IsLater a x) (sym f) rises.0, omega (arith, f, rises.1, more))
stays_then a b c k m n le more first (inr rises) = inr (later_before a b n le rises.0, rises.1)

-- ---- one stamp

ages_then : (a b c : Times) (s t u : Stamp) → a.last ≤ b.last → b.last ≤ c.last → Ages a b s t → Ages b c t u → Ages a c s u
ages_then a b c s t u le more (inl x) (inl y) =
    inl (y.0 ∙ x.0, stays_then a b c s.changed t.changed u.changed le more x.1 y.1, stays_then a b c s.written t.written u.written le more x.2 y.2)
ages_then a b c s t u le more (inl x) (inr y) = inr (omega (arith, x.0, y))
ages_then a b c s t u le more (inr x) (inl y) = inr (omega (arith, x, y.0))
ages_then a b c s t u le more (inr x) (inr y) = inr (omega (arith, x, y))

pub same_ages : (a b : Times) (s t : Stamp) → t ≡ s → Ages a b s t
same_ages a b s t e = rw e (inl (refl, inl refl, inl refl))

met_ages : (a b : Times) (s t : Stamp) (began : ℕ) → (t ≡ s) ⊎ BeginsAs began s t → Ages a b s t
met_ages a b s t began (inl e) = same_ages a b s t e
met_ages a b s t began (inr e) = inr (omega (arith, ap (λ (x : Stamp). x.generation) e))

-- a number that is still its own was so in between
own_between : (a b c : Times) (s t u : Stamp) → Ages a b s t → Ages b c t u → u.generation ≡ s.generation → (t.generation ≡ s.generation) × (u.generation ≡ t.generation)
own_between a b c s t u (inl x) (inl y) own = (x.0, y.0)
own_between a b c s t u (inl x) (inr y) own = (x.0, omega (arith, x.0, y, own))
own_between a b c s t u (inr x) (inl y) own = (omega (arith, x, y.0, own), y.0)
own_between a b c s t u (inr x) (inr y) own = (omega (arith, x, y, own), omega (arith, x, y, own))

-- what a stamp of the same node became
kept_ages : (a b : Times) (s t : Stamp) → Ages a b s t → t.generation ≡ s.generation → StaysOrRises a b s.changed t.changed × StaysOrRises a b s.written t.written
kept_ages a b s t (inl x) own = (x.1, x.2)
kept_ages a b s t (inr x) own = absurd (omega (arith, x, own))

-- ---- all of them

pub goes_none : (a : Times) → GoesOn a a
goes_none a = record { began = refl; day = refl; last = omega arith; stamps = λ id. same_ages a a (stamp_at a id) (stamp_at a id) refl }

pub goes_then : (a b c : Times) → GoesOn a b → GoesOn b c → GoesOn a c
goes_then a b c p q = record {
  began = q.began ∙ p.began;
  day = q.day ∙ p.day;
  last = omega (arith, p.last, q.last);
  stamps = λ id. ages_then a b c (stamp_at a id) (stamp_at b id) (stamp_at c id) p.last q.last (p.stamps id) (q.stamps id);
}

pub met_goes : (a b : Times) → Meets a b → GoesOn a b
met_goes a b m = record {
  began = m.began;
  day = m.day;
  last = omega (arith, m.last);
  stamps = λ id. met_ages a b (stamp_at a id) (stamp_at b id) a.began (m.stamps id);
}

pub runs_none : (a : Times) → Runs a a
runs_none a = record { goes = goes_none a; unset = λ id. inr refl }

pub runs_then : (a b c : Times) → Runs a b → Runs b c → Runs a c
runs_then a b c p q = record {
  goes = goes_then a b c p.goes q.goes;
  unset = λ id. elim (q.unset id) [ inl none ↦ inl none | inr same ↦ elim (p.unset id) [ inl none ↦ inl (same ∙ none) | inr also ↦ inr (same ∙ also) ] ];
}

-- ---- one node

unset_stays : (a b c : Times) (id : ℕ) → Runs b c → (stamp_at b id).modified ≡ None → (stamp_at c id).modified ≡ None
unset_stays a b c id q none = elim (q.unset id) [ inl gone ↦ gone | inr same ↦ same ∙ none ]

pub written_then : (a b c : Times) (id : ℕ) → GoesOn a b → IsWritten a b id → Runs b c → IsWritten a c id
written_then a b c id p w q own =
    let between = own_between a b c (stamp_at a id) (stamp_at b id) (stamp_at c id) (p.stamps id) (q.goes.stamps id) own in
    let is = w between.0 in
    let kept = kept_ages b c (stamp_at b id) (stamp_at c id) (q.goes.stamps id) between.1 in
    (later_stays a b c _ _ p.last is.0 kept.0, later_stays a b c _ _ p.last is.1 kept.1, unset_stays a b c id q is.2)

pub written_met : (a b c : Times) (id : ℕ) → GoesOn a b → IsWritten a b id → Meets b c → IsWritten a c id
written_met a b c id p w m own =
    let between = own_between a b c (stamp_at a id) (stamp_at b id) (stamp_at c id) (p.stamps id) ((met_goes b c m).stamps id) own in
    let is = w between.0 in
    elim (m.stamps id) [ inl same ↦ rw same is | inr new ↦ absurd (omega (arith, ap (λ (x : Stamp). x.generation) new, between.1)) ]

pub written_since : (a b c : Times) (id : ℕ) → GoesOn a b → GoesOn b c → IsWritten b c id → IsWritten a c id
written_since a b c id p q w own =
    let between = own_between a b c (stamp_at a id) (stamp_at b id) (stamp_at c id) (p.stamps id) (q.stamps id) own in
    let is = w between.1 in
    (later_before a b _ p.last is.0, later_before a b _ p.last is.1, is.2)

pub touched_then : (a b c : Times) (id : ℕ) → GoesOn a b → IsTouched a b id → GoesOn b c → IsTouched a c id
touched_then a b c id p w q own =
    let between = own_between a b c (stamp_at a id) (stamp_at b id) (stamp_at c id) (p.stamps id) (q.stamps id) own in
    later_stays a b c _ _ p.last (w between.0) (kept_ages b c (stamp_at b id) (stamp_at c id) (q.stamps id) between.1).0

pub written_is_touched : (a b : Times) (id : ℕ) → IsWritten a b id → IsTouched a b id
written_is_touched a b id w own = (w own).0

named_written : (a b c : Times) (s t u : Stamp) → b.began ≡ a.began → a.last ≤ b.last → StaysOrRises a b s.written t.written → StaysOrRises b c t.written u.written → (t.written ≡ b.began → IsLater b u.written) → s.written ≡ a.began → IsLater a u.written
named_written a b c s t u began le (inl e) stays named is = later_before a b u.written le (named (e ∙ is ∙ sym began))
named_written a b c s t u began le (inr rises) stays named is = later_stays a b c t.written u.written le rises.0 stays

pub named_since : (a b c : Times) (id : ℕ) → GoesOn a b → GoesOn b c → IsNamed b c id → IsNamed a c id
named_since a b c id p q n own =
    let between = own_between a b c (stamp_at a id) (stamp_at b id) (stamp_at c id) (p.stamps id) (q.stamps id) own in
    let is = n between.1 in
    let first = kept_ages a b (stamp_at a id) (stamp_at b id) (p.stamps id) between.0 in
    let then = kept_ages b c (stamp_at b id) (stamp_at c id) (q.stamps id) between.1 in
    (later_before a b _ p.last is.0, named_written a b c (stamp_at a id) (stamp_at b id) (stamp_at c id) p.began p.last first.1 then.1 is.1)

-- ---- between calls that change no time

pub goes_same : (a b : Times) → b ≡ a → GoesOn a b
goes_same a b e = subst (λ x. GoesOn a x) (sym e) (goes_none a)

pub runs_same : (a b : Times) → b ≡ a → Runs a b
runs_same a b e = subst (λ x. Runs a x) (sym e) (runs_none a)

pub runs_from : (a b c : Times) → b ≡ a → Runs b c → Runs a c
runs_from a b c e r = subst (λ x. Runs x c) e r

pub runs_to : (a b c : Times) → Runs a b → c ≡ b → Runs a c
runs_to a b c r e = subst (λ x. Runs a x) (sym e) r

pub written_from : (a b c : Times) (id : ℕ) → b ≡ a → IsWritten b c id → IsWritten a c id
written_from a b c id e w = subst (λ x. IsWritten x c id) e w

pub written_to : (a b c : Times) (id : ℕ) → IsWritten a b id → c ≡ b → IsWritten a c id
written_to a b c id w e = subst (λ x. IsWritten a x id) (sym e) w

pub named_from : (a b c : Times) (id : ℕ) → b ≡ a → IsNamed b c id → IsNamed a c id
named_from a b c id e w = subst (λ x. IsNamed x c id) e w

pub named_to : (a b c : Times) (id : ℕ) → IsNamed a b id → c ≡ b → IsNamed a c id
named_to a b c id w e = subst (λ x. IsNamed a x id) (sym e) w

pub goes_from : (a b c : Times) → b ≡ a → GoesOn b c → GoesOn a c
goes_from a b c e r = subst (λ x. GoesOn x c) e r

pub met_same : (a b : Times) → b ≡ a → Meets a b
met_same a b e = subst (λ x. Meets a x) (sym e) (record { began = refl; day = refl; last = refl; stamps = λ id. inl refl })

-- what holds holds of what is answered
pub on_ok : {A E : Type 0} (result : Result A E) (P : Type 0) → P → OnOk result P
on_ok (Ok x) P held = held
on_ok (Err e) P held = tt
