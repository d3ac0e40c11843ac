-- The inodes that a pass holds for writing, one after the other.
use Rattle.std.proofs.Common.{◌≡◌, ℕ, zero, suc, ◌+◌, ◌<◌, ◌≤◌, ◌==◌, ◌||◌, Bool, true, false, cond, List, [], ◌∷◌, ◌++◌, length, get_or, refl, sym, ◌∙◌, ap, subst, arith, length-append, add-one}
use Rattle.std.specs.Prelude.{◌&&◌, nat_le}
use Rattle.std.specs.List.Sorted.{IsStrictlyIncreasing}
use Rattle.std.proofs.lemmas.Bool.Decides.{nat_tests}
use Rattle.std.proofs.lemmas.List.{get_or_append_left}
use Rattle.std.proofs.lemmas.List.Folds.{list_any-append}
use mathlib.Core.Logic.{dite}
use native.Mathlib.Decide.{dec_lt}
use Rattle.log_record.specs.file_graph.Graph.{is_among}
use Rattle.lease_manager.specs.Passes.{PassView}
use Rattle.lease_manager.specs.PassLeases.{AreWritten, writes, written_up_to}

-- no number of a list is past a bound
abbrev AreUpTo : ℕ → List ℕ → Type 0
AreUpTo m xs = (i d : ℕ) → i < length xs → get_or xs i d ≤ m

end_of : (xs : List ℕ) (n i d : ℕ) → i ≡ length xs → get_or (xs ++ n ∷ []) i d ≡ n
end_of [] n i d is = ap (λ k. get_or (n ∷ []) k d) is
end_of (x ∷ xs) n i d is = ap (λ k. get_or (x ∷ (xs ++ n ∷ [])) k d) is ∙ end_of xs n (length xs) d refl

last_place : (xs : List ℕ) (n i : ℕ) → i < length (xs ++ n ∷ []) → (i < length xs → ⊥) → i ≡ length xs
last_place xs n i low past = let all = length-append xs (n ∷ []) in omega arith

module _ (xs : List ℕ) (m n : ℕ) where
  pub up_to_push : AreUpTo m xs → m ≤ n → AreUpTo n (xs ++ n ∷ [])
  up_to_push low above i d here = dite (dec_lt i (length xs))
      (λ inside. let is = get_or_append_left xs (n ∷ []) d i inside in let at = low i d inside in omega arith)
      (λ past. let is = end_of xs n i d (last_place xs n i here past) in omega arith)

  pub up_to_more : AreUpTo m xs → m ≤ n → AreUpTo n xs
  up_to_more low above i d here = let at = low i d here in omega arith

  pub rising_push : AreUpTo m xs → m < n → IsStrictlyIncreasing xs → IsStrictlyIncreasing (xs ++ n ∷ [])
  rising_push low above rising k here =
      let all = length-append xs (n ∷ []) in
      let k_in : k < length xs = omega (arith, here, all) in
      let a = get_or_append_left xs (n ∷ []) 0 k k_in in
      dite (dec_lt (k + 1) (length xs))
      (λ inside.
      let b = get_or_append_left xs (n ∷ []) 0 (k + 1) inside in
      let at = rising k inside in
      omega (arith, a, b, at))
      (λ past.
      let b = end_of xs n (k + 1) 0 (last_place xs n (k + 1) here past) in
      let at = low k 0 k_in in
      omega (arith, a, b, at, above))

-- ---- all of them

step_rising : (b : Bool) (xs : List ℕ) (n : ℕ) → AreUpTo n xs × IsStrictlyIncreasing xs → AreUpTo (n + 1) (cond b (xs ++ (n + 1) ∷ []) xs) × IsStrictlyIncreasing (cond b (xs ++ (n + 1) ∷ []) xs)
step_rising true xs n h = let above : n ≤ n + 1 = omega arith in let past : n < n + 1 = omega arith in (up_to_push xs n (n + 1) h.0 above, rising_push xs n (n + 1) h.0 past h.1)
step_rising false xs n h = let above : n ≤ n + 1 = omega arith in (up_to_more xs n (n + 1) h.0 above, h.1)

-- one more number, held or not
last_true : (i n : ℕ) (b : Bool) → (n + 1 ≡ i → b ≡ true) → ((nat_le 1 i && (nat_le i n && b)) || (n + 1 == i)) ≡ (nat_le 1 i && (nat_le i (suc n) && b))
last_true i n true at = grind (arith, nat_tests)
last_true i n false at = grind (arith, nat_tests)

last_false : (i n : ℕ) (b : Bool) → (n + 1 ≡ i → b ≡ false) → (nat_le 1 i && (nat_le i n && b)) ≡ (nat_le 1 i && (nat_le i (suc n) && b))
last_false i n true at = grind (arith, nat_tests)
last_false i n false at = grind (arith, nat_tests)

module _ (p : PassView) where
  none_yet : AreUpTo 0 [] × IsStrictlyIncreasing []
  none_yet = (λ i d here. absurd (omega arith), λ k here. absurd (omega arith))

  both : (n : ℕ) → AreUpTo n (written_up_to p n) × IsStrictlyIncreasing (written_up_to p n)
  both zero = none_yet
  both (suc n) = subst (λ m. AreUpTo m (written_up_to p (suc n)) × IsStrictlyIncreasing (written_up_to p (suc n))) (omega arith) (step_rising (writes p (n + 1)) (written_up_to p n) n (both n))

  -- they rise
  pub held_rising : (n : ℕ) → IsStrictlyIncreasing (written_up_to p n)
  held_rising n = (both n).1

  among_push : (xs : List ℕ) (m i : ℕ) → is_among i (xs ++ m ∷ []) ≡ (is_among i xs || (m == i))
  among_push xs m i = list_any-append (λ j. j == i) xs (m ∷ []) ∙ ap (λ b. is_among i xs || b) (or_false (m == i))
    where
      or_false : (b : Bool) → (b || false) ≡ b
      or_false true = refl
      or_false false = refl

  none_low : (i : ℕ) (b : Bool) → false ≡ (nat_le 1 i && (nat_le i 0 && b))
  none_low i b = grind (arith, nat_tests)

  among_step : (n i : ℕ) (b : Bool) → writes p (n + 1) ≡ b → is_among i (written_up_to p n) ≡ (nat_le 1 i && (nat_le i n && writes p i)) → is_among i (cond b (written_up_to p n ++ (n + 1) ∷ []) (written_up_to p n)) ≡ (nat_le 1 i && (nat_le i (suc n) && writes p i))
  among_step n i true is so_far = among_push (written_up_to p n) (n + 1) i ∙ ap (λ b. b || (n + 1 == i)) so_far ∙ last_true i n (writes p i) (λ same. ap (writes p) (sym same) ∙ is)
  among_step n i false is so_far = so_far ∙ last_false i n (writes p i) (λ same. ap (writes p) (sym same) ∙ is)

  -- just those up to the bound that are held for writing are among them
  pub among_held : (n i : ℕ) → is_among i (written_up_to p n) ≡ (nat_le 1 i && (nat_le i n && writes p i))
  among_held zero i = none_low i (writes p i)
  among_held (suc n) i = among_step n i (writes p (n + 1)) refl (among_held n i)

  absorbed : (a b m : Bool) → (a && (b && ((a && b) && m))) ≡ ((a && b) && m)
  absorbed true true m = refl
  absorbed true false m = refl
  absorbed false b m = refl

  pub held_exact : (i : ℕ) → is_among i (written_up_to p 1024) ≡ writes p i
  held_exact i = among_held 1024 i ∙ absorbed (nat_le 1 i) (nat_le i 1024) _

  -- the next number, which is held for writing or not
  pub written_next : (n : ℕ) → written_up_to p (n + 1) ≡ cond (writes p (n + 1)) (written_up_to p n ++ (n + 1) ∷ []) (written_up_to p n)
  written_next n = ap (written_up_to p) (add-one n)

  pub all_written : (xs : List ℕ) (n : ℕ) → n ≤ 1024 → 1024 ≤ n → xs ≡ written_up_to p n → AreWritten p xs
  all_written xs n low high is = subst (AreWritten p) (sym (is ∙ ap (written_up_to p) (same n low high))) (record { rising = held_rising 1024; exact = held_exact })
    where
      same : (n : ℕ) → n ≤ 1024 → 1024 ≤ n → n ≡ 1024
      same n low high = omega arith
