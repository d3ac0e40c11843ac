-- Lists of extents that rise.
use Rattle.std.proofs.Common.{◌≡◌, ◌≤◌, ◌<◌, inl, inr, ℕ, zero, suc, ◌+◌, ◌-◌, List, [], ◌∷◌, ◌++◌, length, get_or, true, sym, ap, ◌∙◌, refl, arith, subst, Some, None}
use Rattle.std.proofs.lemmas.Bool.{cases_eq}
use Rattle.std.proofs.lemmas.List.{get_or_default}
use Rattle.layout.specs.declared.extents.Extent.{Extent}
use Rattle.extent_tree.specs.Places.{has, extent_with}
use Rattle.extent_tree.specs.Normal.{IsRising}
use Rattle.extent_tree.specs.Nodes.{last_end}
use Rattle.extent_tree.proofs.Maps.{not-has, at-here, at-later}

pub rising-wider : (low end low' end' : ℕ) (es : List Extent) → IsRising low end es → low' ≤ low → end ≤ end' → IsRising low' end' es
rising-wider low end low' end' [] is below above = tt
rising-wider low end low' end' (e ∷ es) is below above = (omega (arith, is.0, below), is.1, omega (arith, is.2, above), rising-wider (e.logical + e.length) end (e.logical + e.length) end' es is.3 (omega arith) above)

pub rising-append : (low mid end : ℕ) (xs ys : List Extent) → IsRising low mid xs → low ≤ mid → mid ≤ end → IsRising mid end ys → IsRising low end (xs ++ ys)
rising-append low mid end [] ys first le above second = rising-wider mid end low end ys second le (omega arith)
rising-append low mid end (x ∷ xs) ys first le above second = (first.0, first.1, omega (arith, first.2, above), rising-append (x.logical + x.length) mid end xs ys first.3 first.2 above second)

-- where the last of the extents ends is a bound of theirs, and no greater than any
pub last-bound : (low end : ℕ) (es : List Extent) → IsRising low end es → low ≤ end → (low ≤ last_end low es) × (last_end low es ≤ end)
last-bound low end [] is le = (omega arith, le)
last-bound low end (e ∷ es) is le = let p = last-bound (e.logical + e.length) end es is.3 is.2 in (omega (arith, p.0, is.0), p.1)

pub rising-tight : (low end : ℕ) (es : List Extent) → IsRising low end es → low ≤ end → IsRising low (last_end low es) es
rising-tight low end [] is le = tt
rising-tight low end (e ∷ es) is le = let p = last-bound (e.logical + e.length) end es is.3 is.2 in (is.0, is.1, p.0, rising-tight (e.logical + e.length) end es is.3 is.2)

pub rising-left : (low end : ℕ) (xs ys : List Extent) → IsRising low end (xs ++ ys) → IsRising low end xs
rising-left low end [] ys is = tt
rising-left low end (x ∷ xs) ys is = (is.0, is.1, is.2, rising-left (x.logical + x.length) end xs ys is.3)

pub rising-right : (low end : ℕ) (xs ys : List Extent) → IsRising low end (xs ++ ys) → IsRising (last_end low xs) end ys
rising-right low end [] ys is = is
rising-right low end (x ∷ xs) ys is = rising-right (x.logical + x.length) end xs ys is.3

-- an extent that begins as the last one and ends later
pub rising-longer : (low end end' : ℕ) (front : List Extent) (a c : Extent) → IsRising low end (front ++ a ∷ []) → c.logical ≡ a.logical → 0 < c.length → c.logical + c.length ≤ end' → end ≤ end' → IsRising low end' (front ++ c ∷ [])
rising-longer low end end' [] a c is same some within above = (omega (arith, is.0, same), some, within, tt)
rising-longer low end end' (x ∷ xs) a c is same some within above = (is.0, is.1, omega (arith, is.2, above), rising-longer (x.logical + x.length) end end' xs a c is.3 same some within above)

-- ---- blocks before and behind

pub none-before : (b low end : ℕ) (es : List Extent) → IsRising low end es → b < low → extent_with b es ≡ None
none-before b low end [] is below = refl
none-before b low end (e ∷ es) is below =
    at-later b e es (not-has b e (λ l h. omega (arith, l, is.0, below)))
    ∙ none-before b (e.logical + e.length) end es is.3 (omega (arith, is.0, below))

pub none-behind : (b low end : ℕ) (es : List Extent) → IsRising low end es → end ≤ b → extent_with b es ≡ None
none-behind b low end [] is above = refl
none-behind b low end (e ∷ es) is above =
    at-later b e es (not-has b e (λ l h. omega (arith, h, is.2, above)))
    ∙ none-behind b (e.logical + e.length) end es is.3 above

-- ---- places in the list

pub rising-at : (low end i : ℕ) (es : List Extent) (d : Extent) → IsRising low end es → i < length es → (low ≤ (get_or es i d).logical) × (0 < (get_or es i d).length) × ((get_or es i d).logical + (get_or es i d).length ≤ end)
rising-at low end i [] d is lt = absurd (omega (arith, lt))
rising-at low end zero (e ∷ es) d is lt = (is.0, is.1, is.2)
rising-at low end (suc i) (e ∷ es) d is lt = let p = rising-at (e.logical + e.length) end i es d is.3 (omega (arith, lt)) in (omega (arith, p.0, is.0), p.1, p.2)

pub rising-order : (low end i j : ℕ) (es : List Extent) (d : Extent) → IsRising low end es → i < j → j < length es → (get_or es i d).logical + (get_or es i d).length ≤ (get_or es j d).logical
rising-order low end i j [] d is lt within = absurd (omega (arith, within))
rising-order low end zero zero (e ∷ es) d is lt within = absurd (omega (arith, lt))
rising-order low end zero (suc j) (e ∷ es) d is lt within = (rising-at (e.logical + e.length) end j es d is.3 (omega (arith, within))).0
rising-order low end (suc i) zero (e ∷ es) d is lt within = absurd (omega (arith, lt))
rising-order low end (suc i) (suc j) (e ∷ es) d is lt within = rising-order (e.logical + e.length) end i j es d is.3 (omega (arith, lt)) (omega (arith, within))

-- the extent at a place that has a block is the one that has it
pub extent_with-place : (b low end i : ℕ) (es : List Extent) (d : Extent) → IsRising low end es → i < length es → has b (get_or es i d) ≡ true → (get_or es i d).logical ≤ b → extent_with b es ≡ Some (get_or es i d)
extent_with-place b low end i [] d is lt it above = absurd (omega (arith, lt))
extent_with-place b low end zero (e ∷ es) d is lt it above = at-here b e es it
extent_with-place b low end (suc i) (e ∷ es) d is lt it above =
    let p = rising-at (e.logical + e.length) end i es d is.3 (omega (arith, lt)) in
    at-later b e es (not-has b e (λ l h. omega (arith, h, p.0, above)))
    ∙ extent_with-place b (e.logical + e.length) end i es d is.3 (omega (arith, lt)) it above

-- no extent has a block that is behind those up to a place and before the others
pub none-between : (b i : ℕ) (es : List Extent) → ((k : ℕ) (d : Extent) → k < i → k < length es → (get_or es k d).logical + (get_or es k d).length ≤ b) → ((k : ℕ) (d : Extent) → i ≤ k → k < length es → b < (get_or es k d).logical) → extent_with b es ≡ None
none-between b i [] before after = refl
none-between b zero (e ∷ es) before after =
    at-later b e es (not-has b e (λ l h. omega (arith, l, after 0 e (omega arith) (omega arith))))
    ∙ none-between b zero es (λ k d lt within. absurd (omega (arith, lt))) (λ k d le within. after (suc k) d (omega arith) (omega (arith, within)))
none-between b (suc i) (e ∷ es) before after =
    at-later b e es (not-has b e (λ l h. omega (arith, h, before 0 e (omega arith) (omega arith))))
    ∙ none-between b i es (λ k d lt within. before (suc k) d (omega (arith, lt)) (omega (arith, within))) (λ k d le within. after (suc k) d (omega (arith, le)) (omega (arith, within)))

-- the last extent ends where the list does
pub last-at : (low : ℕ) (es : List Extent) (d : Extent) → 0 < length es → last_end low es ≡ (get_or es (length es - 1) d).logical + (get_or es (length es - 1) d).length
last-at low [] d some = absurd (omega (arith, some))
last-at low (e ∷ []) d some = refl
last-at low (e ∷ f ∷ es) d some =
    let n : length (e ∷ f ∷ es) - 1 ≡ suc (length (f ∷ es) - 1) = omega arith in
    last-at (e.logical + e.length) (f ∷ es) d (omega arith) ∙ ap (λ k. (get_or (e ∷ f ∷ es) k d).logical + (get_or (e ∷ f ∷ es) k d).length) (sym n)

-- ---- a place that was compared

pub before-more : (b low end i : ℕ) (es : List Extent) (c : Extent) → IsRising low end es → i < length es → (get_or es i c).logical + (get_or es i c).length ≤ b → (k : ℕ) (d : Extent) → k < i + 1 → k < length es → (get_or es k d).logical + (get_or es k d).length ≤ b
before-more b low end i es c is lt ends k d le within = elim (cases_eq k i) [
  | inl same ↦ let one : get_or es k d ≡ get_or es i c = ap (λ n. get_or es n d) same ∙ get_or_default es i d c lt in subst (λ e. e.logical + e.length ≤ b) (sym one) ends
  | inr other ↦ let o = rising-order low end k i es c is (omega (arith, le, other)) lt in let w = rising-at low end i es c is lt in let one = get_or_default es k d c within in subst (λ e. e.logical + e.length ≤ b) (sym one) (omega (arith, o, ends, w.1))
]

pub behind-more : (b low end i : ℕ) (es : List Extent) (c : Extent) → IsRising low end es → i < length es → b < (get_or es i c).logical → (k : ℕ) (d : Extent) → i ≤ k → k < length es → b < (get_or es k d).logical
behind-more b low end i es c is lt begins k d le within = elim (cases_eq k i) [
  | inl same ↦ let one : get_or es k d ≡ get_or es i c = ap (λ n. get_or es n d) same ∙ get_or_default es i d c lt in subst (λ e. b < e.logical) (sym one) begins
  | inr other ↦ let o = rising-order low end i k es c is (omega (arith, le, other)) within in let w = rising-at low end i es c is lt in let one = get_or_default es k d c within in subst (λ e. b < e.logical) (sym one) (omega (arith, o, begins, w.1))
]
