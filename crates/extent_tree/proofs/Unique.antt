-- One list in normal form for each map.
use Rattle.std.proofs.Common.{◌≡◌, ◌<◌, inl, inr, ℕ, ◌+◌, ◌-◌, List, [], ◌∷◌, sym, ap, ◌∙◌, refl, arith, subst, Some, None}
use Rattle.std.specs.Option.{option_map}
use Rattle.std.proofs.lemmas.Bool.{cases_lt}
use Rattle.std.proofs.lemmas.Option.{none-some, same_Some}
use Rattle.layout.specs.declared.extents.Extent.{Extent}
use Rattle.extent_tree.specs.Places.{place_in, place_of, SamePlaces}
use Rattle.extent_tree.specs.Normal.{IsRising, Meet, NoneGoesOn}
use Rattle.extent_tree.proofs.Maps.{has-in, not-has, place-here, place-later}
use Rattle.extent_tree.proofs.Rising.{none-before}

unmapped-before : (b low end : ℕ) (es : List Extent) → IsRising low end es → b < low → place_of es b ≡ None
unmapped-before b low end es is below = ap (option_map (place_in b)) (none-before b low end es is below)

begins-mapped : (e : Extent) (es : List Extent) → 0 < e.length → place_of (e ∷ es) e.logical ≡ Some e.place
begins-mapped e es some =
    let at : e.place + (e.logical - e.logical) ≡ e.place = omega arith in
    place-here e.logical e es (has-in e.logical e (omega arith) (omega (arith, some))) ∙ ap Some at

from-itself : (low end : ℕ) (e : Extent) (es : List Extent) → IsRising low end (e ∷ es) → IsRising e.logical end (e ∷ es)
from-itself low end e es is = (omega arith, is.1, is.2, is.3)

not-later : (low end : ℕ) (x y : Extent) (xs ys : List Extent) → IsRising low end (x ∷ xs) → IsRising low end (y ∷ ys) → SamePlaces (x ∷ xs) (y ∷ ys) → x.logical < y.logical → ⊥
not-later low end x y xs ys first second same lt =
    none-some x.place (sym (unmapped-before x.logical y.logical end (y ∷ ys) (from-itself low end y ys second) lt) ∙ sym (same x.logical) ∙ begins-mapped x xs first.1)

-- what begins alike and is shorter would go on
goes-on : (end : ℕ) (x : Extent) (xs : List Extent) (place : ℕ) → IsRising (x.logical + x.length) end xs → place ≡ x.place + x.length → place_of xs (x.logical + x.length) ≡ Some place → Meet (x ∷ []) xs
goes-on end x [] place is on mapped = absurd (none-some place mapped)
goes-on end x (z ∷ zs) place is on mapped =
    elim (cases_lt (x.logical + x.length) z.logical) [
      | inl gap ↦ absurd (none-some place (sym (unmapped-before (x.logical + x.length) z.logical end (z ∷ zs) (from-itself (x.logical + x.length) end z zs is) gap) ∙ mapped))
      | inr near ↦
          let at : z.logical ≡ x.logical + x.length = omega (arith, near, is.0) in
          let here : z.place ≡ place = same_Some _ _ (sym (begins-mapped z zs is.1) ∙ ap (place_of (z ∷ zs)) at ∙ mapped) in
          let block : x.logical + x.length ≡ z.logical = sym at in
          let spot : x.place + x.length ≡ z.place = sym (here ∙ on) in
          (record { block = z.logical; place = z.place }, (λ i. Some (record { block = block i; place = spot i })), refl)
    ]

not-shorter : (low end : ℕ) (x y : Extent) (xs ys : List Extent) → IsRising low end (x ∷ xs) → NoneGoesOn (x ∷ xs) → SamePlaces (x ∷ xs) (y ∷ ys) → x.logical ≡ y.logical → x.place ≡ y.place → x.length < y.length → ⊥
not-shorter low end x y xs ys first apart same start place lt =
    let b = x.logical + x.length in
    let there : place_of (y ∷ ys) b ≡ Some (y.place + (b - y.logical)) = place-here b y ys (has-in b y (omega (arith, start)) (omega (arith, start, lt))) in
    let here : place_of (x ∷ xs) b ≡ place_of xs b = place-later b x xs (not-has b x (λ l h. omega (arith, h))) in
    let on : y.place + (b - y.logical) ≡ x.place + x.length = omega (arith, start, place) in
    apart.0 (goes-on end x xs (y.place + (b - y.logical)) first.3 on (sym here ∙ same b ∙ there))

same-head : (low end : ℕ) (x y : Extent) (xs ys : List Extent) → IsRising low end (x ∷ xs) → IsRising low end (y ∷ ys) → NoneGoesOn (x ∷ xs) → NoneGoesOn (y ∷ ys) → SamePlaces (x ∷ xs) (y ∷ ys) → x ≡ y
same-head low end x y xs ys first second apart apart_y same =
    let back : SamePlaces (y ∷ ys) (x ∷ xs) = λ b. sym (same b) in
    let start : x.logical ≡ y.logical = elim (cases_lt x.logical y.logical) [
      | inl lt ↦ absurd (not-later low end x y xs ys first second same lt)
      | inr le ↦ elim (cases_lt y.logical x.logical) [ inl lt ↦ absurd (not-later low end y x ys xs second first back lt) | inr ge ↦ omega (arith, le, ge) ]
    ] in
    let place : x.place ≡ y.place = same_Some _ _ (sym (begins-mapped x xs first.1) ∙ same x.logical ∙ ap (place_of (y ∷ ys)) start ∙ begins-mapped y ys second.1) in
    let long : x.length ≡ y.length = elim (cases_lt x.length y.length) [
      | inl lt ↦ absurd (not-shorter low end x y xs ys first apart same start place lt)
      | inr le ↦ elim (cases_lt y.length x.length) [ inl lt ↦ absurd (not-shorter low end y x ys xs second apart_y back (sym start) (sym place) lt) | inr ge ↦ omega (arith, le, ge) ]
    ] in
    λ i. record { logical = start i; length = long i; place = place i }

same-rest : (end : ℕ) (x : Extent) (xs ys : List Extent) → IsRising (x.logical + x.length) end xs → IsRising (x.logical + x.length) end ys → SamePlaces (x ∷ xs) (x ∷ ys) → SamePlaces xs ys
same-rest end x xs ys first second same b = elim (cases_lt b (x.logical + x.length)) [
  | inl before ↦ unmapped-before b (x.logical + x.length) end xs first before ∙ sym (unmapped-before b (x.logical + x.length) end ys second before)
  | inr behind ↦ let out = not-has b x (λ l h. omega (arith, h, behind)) in sym (place-later b x xs out) ∙ same b ∙ place-later b x ys out
]

pub one-list : (low end : ℕ) (xs ys : List Extent) → IsRising low end xs → IsRising low end ys → NoneGoesOn xs → NoneGoesOn ys → SamePlaces xs ys → xs ≡ ys
one-list low end [] [] first second apart apart_y same = refl
one-list low end [] (y ∷ ys) first second apart apart_y same = absurd (none-some y.place (same y.logical ∙ begins-mapped y ys second.1))
one-list low end (x ∷ xs) [] first second apart apart_y same = absurd (none-some x.place (sym (same x.logical) ∙ begins-mapped x xs first.1))
one-list low end (x ∷ xs) (y ∷ ys) first second apart apart_y same =
    let head : y ≡ x = sym (same-head low end x y xs ys first second apart apart_y same) in
    let second' = subst (λ z. IsRising low end (z ∷ ys)) head second in
    let same' = subst (λ z. SamePlaces (x ∷ xs) (z ∷ ys)) head same in
    ap (λ l. x ∷ l) (one-list (x.logical + x.length) end xs ys first.3 second'.3 apart.1 apart_y.1 (same-rest end x xs ys first.3 second'.3 same'))
    ∙ ap (λ z. z ∷ ys) (sym head)
