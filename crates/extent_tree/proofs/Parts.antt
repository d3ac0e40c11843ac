-- What a part of a list of extents spells, and where it begins and ends.
use Rattle.std.proofs.Common.{◌≡◌, ◌≤◌, ◌<◌, ◌⊎◌, inl, inr, ℕ, ◌+◌, ◌-◌, max, min, List, [], ◌∷◌, ◌++◌, true, false, sym, ap, ◌∙◌, refl, arith, Option, Some, None}
use Rattle.std.specs.Option.{option_or}
use Rattle.std.proofs.lemmas.Bool.{cases_lt, cases_Bool}
use Rattle.std.proofs.lemmas.Option.{none-some, same_Some}
use Rattle.layout.specs.declared.extents.Extent.{Extent}
use Rattle.extent_tree.specs.Places.{has, place_of}
use Rattle.extent_tree.specs.Normal.{IsRising, Point, start_of, stop_of}
use Rattle.extent_tree.specs.Parts.{cut, within_range, part}
use Rattle.extent_tree.proofs.Maps.{has-parts, has-in, has-out, not-has, place-here, place-later, place_of-append}
use Rattle.extent_tree.proofs.Joined.{start-append, stop-append}
use Rattle.extent_tree.proofs.Cuts.{within-some, within-none}

-- ---- the map of a part

cut-place : (from to b : ℕ) (e : Extent) → has b e ≡ true → from ≤ b → b < to → place_of (within_range from to e) b ≡ place_of (e ∷ []) b
cut-place from to b e it low high =
    let p = has-parts b e it in
    let some : max e.logical from < min (e.logical + e.length) to = omega (arith, p.0, p.1, low, high) in
    let c = cut (max e.logical from) (min (e.logical + e.length) to) e in
    let in_c : has b c ≡ true = has-in b c (omega (arith, p.0, low)) (omega (arith, p.1, high, some)) in
    let same : c.place + (b - c.logical) ≡ e.place + (b - e.logical) = omega (arith, p.0, low) in
    ap (λ l. place_of l b) (within-some from to e some) ∙ place-here b c [] in_c ∙ ap Some same ∙ sym (place-here b e [] it)

-- a block that the extent has not, or that is out of the range
cut-none : (from to b : ℕ) (e : Extent) → (e.logical ≤ b → b < e.logical + e.length → from ≤ b → b < to → ⊥) → place_of (within_range from to e) b ≡ None
cut-none from to b e out = elim (cases_lt (max e.logical from) (min (e.logical + e.length) to)) [
  | inl some ↦
      let c = cut (max e.logical from) (min (e.logical + e.length) to) e in
      let out_c : has b c ≡ false = not-has b c (λ l h. out (omega (arith, l)) (omega (arith, h, some)) (omega (arith, l)) (omega (arith, h, some))) in
      ap (λ l. place_of l b) (within-some from to e some) ∙ place-later b c [] out_c
  | inr nothing ↦ ap (λ l. place_of l b) (within-none from to e nothing)
]

within-in : (from to b : ℕ) (e : Extent) → from ≤ b → b < to → place_of (within_range from to e) b ≡ place_of (e ∷ []) b
within-in from to b e low high = elim (cases_Bool (has b e)) [
  | inl it ↦ cut-place from to b e it low high
  | inr out ↦ cut-none from to b e (λ l h _ _. elim (has-out b e out) [ inl before ↦ omega (arith, before, l) | inr behind ↦ omega (arith, behind, h) ]) ∙ sym (place-later b e [] out)
]

pub part-in : (from to : ℕ) (es : List Extent) (b : ℕ) → from ≤ b → b < to → place_of (part from to es) b ≡ place_of es b
part-in from to [] b low high = refl
part-in from to (e ∷ es) b low high =
    place_of-append (within_range from to e) (part from to es) b
    ∙ (λ i. option_or (within-in from to b e low high i) (part-in from to es b low high i))
    ∙ sym (place_of-append (e ∷ []) es b)

pub part-out : (from to : ℕ) (es : List Extent) (b : ℕ) → (from ≤ b → b < to → ⊥) → place_of (part from to es) b ≡ None
part-out from to [] b out = refl
part-out from to (e ∷ es) b out =
    place_of-append (within_range from to e) (part from to es) b
    ∙ (λ i. option_or (cut-none from to b e (λ _ _ l h. out l h) i) (part-out from to es b out i))

-- ---- parts that are nothing, or all

pub part-none : (from to low end : ℕ) (es : List Extent) → IsRising low end es → to ≤ low → part from to es ≡ []
part-none from to low end [] is below = refl
part-none from to low end (e ∷ es) is below =
    (λ i. within-none from to e (omega (arith, is.0, below)) i ++ part from to es)
    ∙ part-none from to (e.logical + e.length) end es is.3 (omega (arith, is.0, below))

within-all : (from to : ℕ) (e : Extent) → 0 < e.length → from ≤ e.logical → e.logical + e.length ≤ to → within_range from to e ≡ e ∷ []
within-all from to e some low high =
    let logical : max e.logical from ≡ e.logical = omega (arith, low) in
    let long : min (e.logical + e.length) to - max e.logical from ≡ e.length = omega (arith, low, high) in
    let place : e.place + (max e.logical from - e.logical) ≡ e.place = omega (arith, low) in
    within-some from to e (omega (arith, some, low, high)) ∙ (λ i. record { logical = logical i; length = long i; place = place i } ∷ [])

pub part-all : (from to low end : ℕ) (es : List Extent) → IsRising low end es → from ≤ low → end ≤ to → part from to es ≡ es
part-all from to low end [] is below above = refl
part-all from to low end (e ∷ es) is below above =
    λ i. within-all from to e is.1 (omega (arith, is.0, below)) (omega (arith, is.2, above)) i
    ++ part-all from to (e.logical + e.length) end es is.3 (omega (arith, is.0, below)) above i

-- ---- where a part begins

pub part-start : (from to : ℕ) (es : List Extent) (p : Point) → start_of (part from to es) ≡ Some p → from ≤ p.block
part-start from to [] p is = absurd (none-some p is)
part-start from to (e ∷ es) p is = elim (cases_lt (max e.logical from) (min (e.logical + e.length) to)) [
  | inl some ↦
      let begin : Some (record { block = max e.logical from; place = e.place + (max e.logical from - e.logical) }) ≡ Some p = sym (ap (λ l. start_of (l ++ part from to es)) (within-some from to e some)) ∙ is in
      let at : max e.logical from ≡ p.block = ap (λ q. q.block) (same_Some _ _ begin) in
      omega (arith, at)
  | inr nothing ↦ part-start from to es p (sym (ap (λ l. start_of (l ++ part from to es)) (within-none from to e nothing)) ∙ is)
]

-- a part from the beginning on begins as the whole
pub part-front : (to low end : ℕ) (es : List Extent) (p : Point) → IsRising low end es → start_of (part 0 to es) ≡ Some p → start_of es ≡ Some p
part-front to low end [] p rising is = is
part-front to low end (e ∷ es) p rising is = elim (cases_lt e.logical to) [
  | inl some ↦
      let any : max e.logical 0 < min (e.logical + e.length) to = omega (arith, some, rising.1) in
      let logical : max e.logical 0 ≡ e.logical = omega arith in
      let place : e.place + (max e.logical 0 - e.logical) ≡ e.place = omega arith in
      let begin : start_of (within_range 0 to e ++ part 0 to es) ≡ Some (record { block = e.logical; place = e.place }) = ap (λ l. start_of (l ++ part 0 to es)) (within-some 0 to e any) ∙ (λ i. Some (record { block = logical i; place = place i })) in
      sym begin ∙ is
  | inr nothing ↦ absurd (none-some p (sym (ap start_of (part-none 0 to e.logical end (e ∷ es) (omega arith, rising.1, rising.2, rising.3) nothing)) ∙ is))
]

-- ---- where a part ends

stop-within : (from to : ℕ) (e : Extent) (p : Point) → stop_of (within_range from to e) ≡ Some p → p.block ≤ to
stop-within from to e p is = elim (cases_lt (max e.logical from) (min (e.logical + e.length) to)) [
  | inl some ↦
      let c = cut (max e.logical from) (min (e.logical + e.length) to) e in
      let end : Some (record { block = c.logical + c.length; place = c.place + c.length }) ≡ Some p = sym (ap stop_of (within-some from to e some)) ∙ is in
      let at : c.logical + c.length ≡ p.block = ap (λ q. q.block) (same_Some _ _ end) in
      omega (arith, at, some)
  | inr nothing ↦ absurd (none-some p (sym (ap stop_of (within-none from to e nothing)) ∙ is))
]

or-either : {A : Type 0} (o q : Option A) (x : A) → option_or o q ≡ Some x → (o ≡ Some x) ⊎ (q ≡ Some x)
or-either None q x is = inr is
or-either (Some y) q x is = inl is

-- what ends one list behind another ends the second, or the first where the second is empty
pub stop-either : (xs ys : List Extent) (p : Point) → stop_of (xs ++ ys) ≡ Some p → (stop_of ys ≡ Some p) ⊎ (stop_of xs ≡ Some p)
stop-either xs ys p is = or-either (stop_of ys) (stop_of xs) p (sym (stop-append xs ys) ∙ is)

pub start-either : (xs ys : List Extent) (p : Point) → start_of (xs ++ ys) ≡ Some p → (start_of xs ≡ Some p) ⊎ (start_of ys ≡ Some p)
start-either xs ys p is = or-either (start_of xs) (start_of ys) p (sym (start-append xs ys) ∙ is)

pub part-stop : (from to : ℕ) (es : List Extent) (p : Point) → stop_of (part from to es) ≡ Some p → p.block ≤ to
part-stop from to [] p is = absurd (none-some p is)
part-stop from to (e ∷ es) p is = elim (stop-either (within_range from to e) (part from to es) p is) [
  | inl later ↦ part-stop from to es p later
  | inr here ↦ stop-within from to e p here
]

pub stop-more : (e : Extent) (es : List Extent) (p : Point) → stop_of es ≡ Some p → stop_of (e ∷ es) ≡ Some p
stop-more e es p is = stop-append (e ∷ []) es ∙ ap (λ o. option_or o (stop_of (e ∷ []))) is

-- a part to the end ends as the whole
pub part-back : (from low end : ℕ) (es : List Extent) (p : Point) → IsRising low end es → stop_of (part from end es) ≡ Some p → stop_of es ≡ Some p
part-back from low end [] p rising is = is
part-back from low end (e ∷ es) p rising is = elim (cases_lt from (e.logical + e.length)) [
  | inl some ↦
      let any : max e.logical from < min (e.logical + e.length) end = omega (arith, some, rising.1, rising.2) in
      let c = cut (max e.logical from) (min (e.logical + e.length) end) e in
      let block : c.logical + c.length ≡ e.logical + e.length = omega (arith, any, rising.2) in
      let place : c.place + c.length ≡ e.place + e.length = omega (arith, any, rising.2) in
      let one : stop_of (within_range from end e) ≡ stop_of (e ∷ []) = ap stop_of (within-some from end e any) ∙ (λ i. Some (record { block = block i; place = place i })) in
      let rest : part from end es ≡ es = part-all from end (e.logical + e.length) end es rising.3 (omega (arith, some)) (omega arith) in
      stop-append (e ∷ []) es ∙ sym (λ i. option_or (stop_of (rest i)) (one i)) ∙ sym (stop-append (within_range from end e) (part from end es)) ∙ is
  | inr nothing ↦ stop-more e es p (part-back from (e.logical + e.length) end es p rising.3 (sym (ap (λ l. stop_of (l ++ part from end es)) (within-none from end e (omega (arith, nothing)))) ∙ is))
]
