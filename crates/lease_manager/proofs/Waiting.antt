-- What waits in an asked word, and what a hearing finds.
use Rattle.std.proofs.Common.{◌≡◌, ◌≢◌, ◌⊎◌, ℕ, cond, List, [], ◌∷◌, ◌++◌, bit_or, inl, inr, refl, sym, ap, ◌∙◌, subst, arith, eq-eqb, ne_eqb}
use mathlib.Core.Logic.{dite}
use native.Mathlib.Decide.{ℕ_discrete}
use Rattle.std.specs.Int.{bit_at}
use Rattle.std.proofs.lemmas.Nat.Bits.{bit_at-zero, bit_at_or, bit_at-lt}
use Rattle.lease_manager.specs.declared.view.Event.TheVariants.{Took, Refused, Gave, Looked, Asked, Heard}
use Rattle.lease_manager.specs.History.{Entry, unheard, IsAskedOf, IsHistory, NoneHears, IsAsked, IsWaiting}

-- one step more that does not hear the word
later : (x : Entry) (steps : List Entry) (word bit : ℕ) → ((found : ℕ) → x.1 ≢ Heard word found) → IsWaiting steps word bit → IsWaiting (x ∷ steps) word bit
later x steps word bit deaf w = (x ∷ w.0, w.1, w.2, w.3, ap (λ l. x ∷ l) w.4, w.5, (deaf, w.6))

-- a question that comes
comes : (c word bits bit : ℕ) (steps : List Entry) → bit_at bits bit ≡ 1 → IsWaiting ((c, Asked word bits) ∷ steps) word bit
comes c word bits bit steps one = ([], steps, c, bits, refl, one, tt)

either_bit : (n bits bit : ℕ) → bit_at (bit_or n bits) bit ≡ 1 → bit_at n bit ≢ 1 → bit_at bits bit ≡ 1
either_bit n bits bit one ne = let o = bit_at_or n bits bit in let l = bit_at-lt n bit in let m = bit_at-lt bits bit in omega arith

bit_stays : (n bits bit : ℕ) → (bit_at n bit ≡ 1) ⊎ (bit_at bits bit ≡ 1) → bit_at (bit_or n bits) bit ≡ 1
bit_stays n bits bit one = let o = bit_at_or n bits bit in let l = bit_at-lt n bit in let m = bit_at-lt bits bit in omega arith

-- a bit that the older steps leave clear was asked in the newer ones, and not heard since
pub asked_among : (steps older : List Entry) (word bit : ℕ) → bit_at (unheard word older) bit ≡ 0 → bit_at (unheard word (steps ++ older)) bit ≡ 1 → IsWaiting steps word bit
asked_among [] older word bit clear one = absurd (omega arith)
asked_among ((c, Took at mode) ∷ steps) older word bit clear one = later _ steps word bit (λ f e. absurd (cc)) (asked_among steps older word bit clear one)
asked_among ((c, Refused at found) ∷ steps) older word bit clear one = later _ steps word bit (λ f e. absurd (cc)) (asked_among steps older word bit clear one)
asked_among ((c, Gave at) ∷ steps) older word bit clear one = later _ steps word bit (λ f e. absurd (cc)) (asked_among steps older word bit clear one)
asked_among ((c, Looked at found) ∷ steps) older word bit clear one = later _ steps word bit (λ f e. absurd (cc)) (asked_among steps older word bit clear one)
asked_among ((c, Asked at bits) ∷ steps) older word bit clear one =
    let n : ℕ = unheard word (steps ++ older) in
    dite (ℕ_discrete (bit_at n bit) 1)
    (λ waits. later _ steps word bit (λ f e. absurd (cc)) (asked_among steps older word bit clear waits))
    (λ new. dite (ℕ_discrete at word)
    (λ is. let two = ap (λ b. bit_at (cond b (bit_or n bits) n) bit) (sym (eq-eqb at word is)) ∙ one in
    subst (λ w. IsWaiting ((c, Asked at bits) ∷ steps) w bit) is (comes c at bits bit steps (either_bit n bits bit two new)))
    (λ ne. absurd (new (ap (λ b. bit_at (cond b (bit_or n bits) n) bit) (sym (ne_eqb at word ne)) ∙ one))))
asked_among ((c, Heard at found) ∷ steps) older word bit clear one =
    let n : ℕ = unheard word (steps ++ older) in
    dite (ℕ_discrete at word)
    (λ is. let none_left = ap (λ b. bit_at (cond b 0 n) bit) (sym (eq-eqb at word is)) ∙ one in let z = bit_at-zero bit in absurd (omega arith))
    (λ ne. later _ steps word bit (λ f e. ne (heard_at at found word f e)) (asked_among steps older word bit clear (ap (λ b. bit_at (cond b 0 n) bit) (sym (ne_eqb at word ne)) ∙ one)))
  where
    heard_at : (at found word f : ℕ) → Heard at found ≡ Heard word f → at ≡ word
    heard_at at found word f e = cc

-- a question that was not heard since waits
pub waits_on : (newer older : List Entry) (c word bits bit : ℕ) → bit_at bits bit ≡ 1 → NoneHears newer word → bit_at (unheard word (newer ++ (c, Asked word bits) ∷ older)) bit ≡ 1
waits_on [] older c word bits bit one deaf =
    let n : ℕ = unheard word older in
    ap (λ b. bit_at (cond b (bit_or n bits) n) bit) (eq-eqb word word refl) ∙ bit_stays n bits bit (inr one)
waits_on ((k, Took at mode) ∷ newer) older c word bits bit one deaf = waits_on newer older c word bits bit one deaf.1
waits_on ((k, Refused at found) ∷ newer) older c word bits bit one deaf = waits_on newer older c word bits bit one deaf.1
waits_on ((k, Gave at) ∷ newer) older c word bits bit one deaf = waits_on newer older c word bits bit one deaf.1
waits_on ((k, Looked at found) ∷ newer) older c word bits bit one deaf = waits_on newer older c word bits bit one deaf.1
waits_on ((k, Asked at more) ∷ newer) older c word bits bit one deaf =
    let n : ℕ = unheard word (newer ++ (c, Asked word bits) ∷ older) in
    let waits = waits_on newer older c word bits bit one deaf.1 in
    dite (ℕ_discrete at word)
    (λ is. ap (λ b. bit_at (cond b (bit_or n more) n) bit) (eq-eqb at word is) ∙ bit_stays n more bit (inl waits))
    (λ ne. ap (λ b. bit_at (cond b (bit_or n more) n) bit) (ne_eqb at word ne) ∙ waits)
waits_on ((k, Heard at found) ∷ newer) older c word bits bit one deaf =
    let n : ℕ = unheard word (newer ++ (c, Asked word bits) ∷ older) in
    dite (ℕ_discrete at word)
    (λ is. absurd (deaf.0 found (ap (λ w. Heard w found) is)))
    (λ ne. ap (λ b. bit_at (cond b 0 n) bit) (ne_eqb at word ne) ∙ waits_on newer older c word bits bit one deaf.1)

-- a hearing of a history is of an own word, and finds what was asked in it since it was last heard
pub heard_right : (newer older : List Entry) (c word found : ℕ) → IsHistory (newer ++ (c, Heard word found) ∷ older) → IsAskedOf c word × (found ≡ unheard word older)
heard_right [] older c word found legal = legal.0
heard_right (x ∷ newer) older c word found legal = heard_right newer older c word found legal.1

-- between two hearings of a question it was asked
pub asked_between : (newer middle older : List Entry) (c d word bit found before : ℕ) → IsHistory (newer ++ (c, Heard word found) ∷ (middle ++ (d, Heard word before) ∷ older)) → bit_at found bit ≡ 1 → IsAsked middle word bit
asked_between newer middle older c d word bit found before legal one =
    let right = (heard_right newer (middle ++ (d, Heard word before) ∷ older) c word found legal).1 in
    let clear = ap (λ b. bit_at (cond b 0 (unheard word older)) bit) (eq-eqb word word refl) ∙ bit_at-zero bit in
    let w = asked_among middle ((d, Heard word before) ∷ older) word bit clear (ap (λ n. bit_at n bit) (sym right) ∙ one) in
    (w.0, w.1, w.2, w.3, w.4, w.5)
