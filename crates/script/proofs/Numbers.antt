-- How a number grows by its digits.
use Rattle.std.proofs.Common.{◌≡◌, ◌∙◌, List, ℕ, ◌+◌, ◌-◌, ◌*◌, ◌<◌, ◌≤◌, ◌^◌, None, Some, [], ◌∷◌, refl, arith, length, drop}
use Rattle.std.proofs.lemmas.Grind.{common_steps}
use Rattle.script.specs.Script.{digit, value_from, number_from, number}

-- further digits make no number less
pub value_from-at_least : (n : ℕ) (bs : List ℕ) → n ≤ value_from n bs
value_from-at_least n [] = omega arith
value_from-at_least n (b ∷ bs) = omega (arith, value_from-at_least (n * 10 + (b - 48)) bs)

-- a digit is added at the end of the number
pub number_from-digit : (n b d : ℕ) (bs : List ℕ) → digit b ≡ Some d → number_from n (b ∷ bs) ≡ number_from (n * 10 + d) bs
unfolding number_from
number_from-digit n b d bs is = grind (arith, common_steps)

-- another byte spells no number
pub number_from-other : (n b : ℕ) (bs : List ℕ) → digit b ≡ None → number_from n (b ∷ bs) ≡ None
unfolding number_from
number_from-other n b bs is = grind (arith, common_steps)

-- nor do too many digits
pub number_from-past : (n : ℕ) (bs : List ℕ) → 2 ^ 64 ≤ n → number_from n bs ≡ None
unfolding number_from
number_from-past n bs past = grind (arith, common_steps, value_from-at_least n bs, past)

-- no further digit
pub number_from-none : (n : ℕ) → n < 2 ^ 64 → number_from n [] ≡ Some n
unfolding number_from
number_from-none n below = grind (arith, common_steps)

-- where there is a digit the number is counted from zero
pub number-from_zero : (word : List ℕ) → 0 < length word → number word ≡ number_from 0 word
number-from_zero [] some = absurd (omega (arith, some))
number-from_zero (b ∷ bs) some = refl

-- a digit too many spells no number
pub number_from-full : (n b d : ℕ) (bs : List ℕ) → digit b ≡ Some d → 2 ^ 64 ≤ n * 10 + d → number_from n (b ∷ bs) ≡ None
number_from-full n b d bs is past = number_from-digit n b d bs is ∙ number_from-past (n * 10 + d) bs past

-- behind the last byte there is none
pub number_from-end : (n i : ℕ) (word : List ℕ) → length word ≤ i → n < 2 ^ 64 → number_from n (drop i word) ≡ Some n
number_from-end n i word past below = rw (drop_all i word past) (number_from-none n below)
  where
    drop_all : (i : ℕ) (word : List ℕ) → length word ≤ i → drop i word ≡ []
    drop_all i word past = grind (arith, common_steps, past)
