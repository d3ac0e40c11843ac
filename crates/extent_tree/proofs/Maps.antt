-- The map that a list of extents spells.
use Rattle.std.proofs.Common.{◌≡◌, ◌≤◌, ◌<◌, ◌⊎◌, inl, inr, ℕ, ◌+◌, ◌-◌, List, [], ◌∷◌, ◌++◌, true, false, sym, ap, ◌∙◌, refl, arith, subst, Option, Some, None}
use Rattle.std.specs.Prelude.{nat_le, nat_lt}
use Rattle.std.specs.Option.{option_map, option_or}
use Rattle.std.proofs.lemmas.Bool.{cases_Bool, and_parts, and_from, and_cases, leb-true, ltb-true, leb-false, ltb-false, le-leb, lt-ltb, cond-true, cond-false}
use Rattle.layout.specs.declared.extents.Extent.{Extent}
use Rattle.extent_tree.specs.Places.{has, place_in, extent_with, place_of, SamePlaces}

-- ---- whether an extent has a block

pub has-parts : (b : ℕ) (e : Extent) → has b e ≡ true → (e.logical ≤ b) × (b < e.logical + e.length)
has-parts b e h = let p = and_parts (nat_le e.logical b) (nat_lt b (e.logical + e.length)) h in (leb-true e.logical b p.0, ltb-true b (e.logical + e.length) p.1)

pub has-in : (b : ℕ) (e : Extent) → e.logical ≤ b → b < e.logical + e.length → has b e ≡ true
has-in b e low high = and_from (nat_le e.logical b) (nat_lt b (e.logical + e.length)) (le-leb e.logical b low) (lt-ltb b (e.logical + e.length) high)

pub has-out : (b : ℕ) (e : Extent) → has b e ≡ false → (b < e.logical) ⊎ (e.logical + e.length ≤ b)
has-out b e h = elim (and_cases (nat_le e.logical b) (nat_lt b (e.logical + e.length)) h) [ inl low ↦ inl (leb-false e.logical b low) | inr high ↦ inr (ltb-false b (e.logical + e.length) high) ]

pub not-has : (b : ℕ) (e : Extent) → (e.logical ≤ b → b < e.logical + e.length → ⊥) → has b e ≡ false
not-has b e out = elim (cases_Bool (has b e)) [ inl h ↦ let p = has-parts b e h in absurd (out p.0 p.1) | inr h ↦ h ]

-- ---- the first extent that has a block

pub at-here : (b : ℕ) (e : Extent) (es : List Extent) → has b e ≡ true → extent_with b (e ∷ es) ≡ Some e
at-here b e es h = cond-true (has b e) (Some e) (extent_with b es) h

pub at-later : (b : ℕ) (e : Extent) (es : List Extent) → has b e ≡ false → extent_with b (e ∷ es) ≡ extent_with b es
at-later b e es h = cond-false (has b e) (Some e) (extent_with b es) h

pub extent_with-append : (b : ℕ) (xs ys : List Extent) → extent_with b (xs ++ ys) ≡ option_or (extent_with b xs) (extent_with b ys)
extent_with-append b [] ys = refl
extent_with-append b (x ∷ xs) ys = elim (cases_Bool (has b x)) [
  | inl h ↦ at-here b x (xs ++ ys) h ∙ ap (λ o. option_or o (extent_with b ys)) (sym (at-here b x xs h))
  | inr h ↦ at-later b x (xs ++ ys) h ∙ extent_with-append b xs ys ∙ ap (λ o. option_or o (extent_with b ys)) (sym (at-later b x xs h))
]

pub extent_with-has : (b : ℕ) (es : List Extent) (e : Extent) → extent_with b es ≡ Some e → has b e ≡ true
extent_with-has b [] e is = cc
extent_with-has b (x ∷ xs) e is = elim (cases_Bool (has b x)) [
  | inl h ↦ let same : Some x ≡ Some e = sym (at-here b x xs h) ∙ is in let is_e : x ≡ e = cc in subst (λ y. has b y ≡ true) is_e h
  | inr h ↦ extent_with-has b xs e (sym (at-later b x xs h) ∙ is)
]

pub or-none : {A : Type 0} (o : Option A) → option_or o None ≡ o
or-none None = refl
or-none (Some x) = refl

pub or-assoc : {A : Type 0} (o p q : Option A) → option_or (option_or o p) q ≡ option_or o (option_or p q)
or-assoc None p q = refl
or-assoc (Some x) p q = refl

option_map-or : {A B : Type 0} (f : A → B) (o p : Option A) → option_map f (option_or o p) ≡ option_or (option_map f o) (option_map f p)
option_map-or f None p = refl
option_map-or f (Some x) p = refl

-- ---- places

pub place_of-append : (xs ys : List Extent) (b : ℕ) → place_of (xs ++ ys) b ≡ option_or (place_of xs b) (place_of ys b)
place_of-append xs ys b = ap (option_map (place_in b)) (extent_with-append b xs ys) ∙ option_map-or (place_in b) (extent_with b xs) (extent_with b ys)

pub place-here : (b : ℕ) (e : Extent) (es : List Extent) → has b e ≡ true → place_of (e ∷ es) b ≡ Some (e.place + (b - e.logical))
place-here b e es h = ap (option_map (place_in b)) (at-here b e es h)

pub place-later : (b : ℕ) (e : Extent) (es : List Extent) → has b e ≡ false → place_of (e ∷ es) b ≡ place_of es b
place-later b e es h = ap (option_map (place_in b)) (at-later b e es h)

pub same-append : (xs ys us vs : List Extent) → SamePlaces xs us → SamePlaces ys vs → SamePlaces (xs ++ ys) (us ++ vs)
same-append xs ys us vs first second b = place_of-append xs ys b ∙ (λ i. option_or (first b i) (second b i)) ∙ sym (place_of-append us vs b)

-- an extent that goes on where another ends is a part of a longer one
pub same-longer : (a b c : Extent) → c.logical ≡ a.logical → c.length ≡ a.length + b.length → c.place ≡ a.place → b.logical ≡ a.logical + a.length → b.place ≡ a.place + a.length → SamePlaces (c ∷ []) (a ∷ b ∷ [])
same-longer a b c starts long place goes_on place_on k = elim (cases_Bool (has k c)) [
  | inl h ↦ let p = has-parts k c h in elim (cases_Bool (has k a)) [
    | inl in_a ↦ let q = has-parts k a in_a in let same : c.place + (k - c.logical) ≡ a.place + (k - a.logical) = omega (arith, starts, place) in place-here k c [] h ∙ ap Some same ∙ sym (place-here k a (b ∷ []) in_a)
    | inr out_a ↦ elim (has-out k a out_a) [
      | inl before ↦ absurd (omega (arith, before, p.0, starts))
      | inr after ↦
          let in_b : has k b ≡ true = has-in k b (omega (arith, after, goes_on)) (omega (arith, p.1, starts, long, goes_on)) in
          let same : c.place + (k - c.logical) ≡ b.place + (k - b.logical) = omega (arith, starts, place, goes_on, place_on, after) in
          place-here k c [] h ∙ ap Some same ∙ sym (place-later k a (b ∷ []) out_a ∙ place-here k b [] in_b)
    ]
  ]
  | inr out ↦ elim (has-out k c out) [
    | inl before ↦
        let out_a : has k a ≡ false = not-has k a (λ low high. omega (arith, low, before, starts)) in
        let out_b : has k b ≡ false = not-has k b (λ low high. omega (arith, low, before, starts, goes_on)) in
        place-later k c [] out ∙ sym (place-later k a (b ∷ []) out_a ∙ place-later k b [] out_b)
    | inr after ↦
        let out_a : has k a ≡ false = not-has k a (λ low high. omega (arith, high, after, starts, long)) in
        let out_b : has k b ≡ false = not-has k b (λ low high. omega (arith, high, after, starts, long, goes_on)) in
        place-later k c [] out ∙ sym (place-later k a (b ∷ []) out_a ∙ place-later k b [] out_b)
  ]
]
