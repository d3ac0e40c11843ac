-- How the parts of a text come off from the left.
use Rattle.std.proofs.Common.{◌≡◌, ◌==◌, All, List, ℕ, ◌+◌, ◌<◌, ◌≤◌, Bool, false, Option, None, Some, [], ◌∷◌, refl, sym, subst, arith, length, take, drop}
use Rattle.std.proofs.lemmas.Grind.{common_steps}
use Rattle.std.specs.List.{position, position_or_len}
use Rattle.std.proofs.lemmas.List.Splits.{slice_split_first, slice_split_none}
use Rattle.std.proofs.lemmas.List.Sums.{fails_before_first}
use Rattle.std.specs.Prelude.{option_map}
use Rattle.script.specs.Script.{parts, one, two, three, four}
use Rattle.script.specs.SystemLines.{asks, asks_either, event}

-- where the first is found, as a number below the length
pub found_at : (p : ℕ → Bool) (xs : List ℕ) (i : ℕ) → position p xs ≡ Some i → (position_or_len p xs ≡ i) × (position_or_len p xs < length xs)
found_at p xs i found = grind (arith, common_steps)

-- where none is found, no place is below the length
pub not_found : (p : ℕ → Bool) (xs : List ℕ) → position p xs ≡ None → length xs ≤ position_or_len p xs
not_found p xs none = grind (arith, common_steps)

-- and none passes
pub none_passes : (p : ℕ → Bool) (xs : List ℕ) → position p xs ≡ None → All (λ x. p x ≡ false) xs
none_passes p xs none = λ k d h. let h2 = not_found p xs none in fails_before_first p xs k d (omega (arith, h2))

-- the first part ends at the first of the bytes
pub parts_step : (byte : ℕ) (text : List ℕ) (at : ℕ) → position (λ b. b == byte) text ≡ Some at → parts byte text ≡ take at text ∷ parts byte (drop (at + 1) text)
parts_step byte text at found = let h = found_at (λ b. b == byte) text at found in rw (← h.0) (slice_split_first (λ b. b == byte) text 0 h.1)

-- with none of the bytes there is one part
pub parts_last : (byte : ℕ) (text : List ℕ) → position (λ b. b == byte) text ≡ None → parts byte text ≡ text ∷ []
parts_last byte text none = slice_split_none (λ b. b == byte) text (none_passes (λ b. b == byte) text none)

-- a part before those of a text is not the only one
pub one-parts : (a : List ℕ) (byte : ℕ) (text : List ℕ) → one (a ∷ parts byte text) ≡ None
one-parts a byte [] = refl
one-parts a byte (b ∷ bs) = grind (arith, common_steps)

-- nor are two before them the only ones
pub two-parts : (a b : List ℕ) (byte : ℕ) (text : List ℕ) → two (a ∷ b ∷ parts byte text) ≡ None
two-parts a b byte [] = refl
two-parts a b byte (c ∷ cs) = grind (arith, common_steps)

-- four words are one and three behind it
pub four-first : (a : List ℕ) (ws : List (List ℕ)) → four (a ∷ ws) ≡ option_map (λ w. (a, w.0, w.1, w.2)) (three ws)
four-first a [] = refl
four-first a (b ∷ []) = refl
four-first a (b ∷ c ∷ []) = refl
four-first a (b ∷ c ∷ d ∷ []) = refl
four-first a (b ∷ c ∷ d ∷ e ∷ ws) = refl

-- a text has a first part
pub parts-some : (byte : ℕ) (text : List ℕ) → (x : List ℕ) × (xs : List (List ℕ)) × (parts byte text ≡ x ∷ xs)
parts-some byte text = by_place (position (λ b. b == byte) text) refl
  where
    by_place : (o : Option ℕ) → position (λ b. b == byte) text ≡ o → (x : List ℕ) × (xs : List (List ℕ)) × (parts byte text ≡ x ∷ xs)
    by_place None none = (text, [], parts_last byte text none)
    by_place (Some at) found = (take at text, parts byte (drop (at + 1) text), parts_step byte text at found)

-- so a word before a text has words behind it
pub asks-parts : (w : List ℕ) (text : List ℕ) → asks (w ∷ parts 32 text) ≡ asks_either (event w) w (parts 32 text)
asks-parts w text = let some = parts-some 32 text in subst (λ ps. asks (w ∷ ps) ≡ asks_either (event w) w ps) (sym some.2) refl
