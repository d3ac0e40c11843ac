-- How the bytes of a path come off from the left.
use Rattle.std.proofs.Common.{rules, append-nil, ◌≡◌, ◌==◌, List, ℕ, ◌<◌, true, false, Option, None, Some, [], ◌∷◌, ◌++◌, refl, arith, length, if◌then◌else◌, is_some, option_map, append_assoc}
use Rattle.std.proofs.lemmas.Grind.{common_steps}
use Rattle.script.specs.Script.{path_bytes, decoded_first, before}
use Rattle.script.specs.LineValues.{or_empty}

-- a path begins with the first byte that it spells
pub decoded-first : (text : List ℕ) (b : ℕ) (rest : List ℕ) → decoded_first text ≡ Some (b, rest) → path_bytes text ≡ before (Some b) (path_bytes rest)
unfolding path_bytes
decoded-first [] b rest is = grind (arith, common_steps, is)
decoded-first (x ∷ []) b rest is = grind (arith, common_steps, is)
decoded-first (x ∷ h ∷ []) b rest is = grind (arith, common_steps, is)
decoded-first (x ∷ h ∷ l ∷ ts) b rest is = grind (arith, common_steps, is)

-- where it spells no first byte it is empty or no path
pub decoded-no_first : (text : List ℕ) → decoded_first text ≡ None → path_bytes text ≡ (if length text == 0 then Some [] else None)
unfolding path_bytes
decoded-no_first [] is = refl
decoded-no_first (x ∷ []) is = grind (arith, common_steps, is)
decoded-no_first (x ∷ h ∷ []) is = grind (arith, common_steps, is)
decoded-no_first (x ∷ h ∷ l ∷ ts) is = grind (arith, common_steps, is)

-- a byte in front makes no path of what is none
pub is_some-before : (b : ℕ) (o : Option (List ℕ)) → is_some (before (Some b) o) ≡ is_some o
is_some-before b None = refl
is_some-before b (Some bs) = refl

-- a byte in front of others, behind some bytes
pub behind-before : (front : List ℕ) (b : ℕ) (o : Option (List ℕ)) → option_map (λ bs. front ++ bs) (before (Some b) o) ≡ option_map (λ bs. (front ++ b ∷ []) ++ bs) o
behind-before front b None = refl
behind-before front b (Some bs) = grind (arith, common_steps, append_assoc {A = ℕ})

-- what follows the first byte is shorter
pub decoded_first-shorter : (text : List ℕ) (b : ℕ) (rest : List ℕ) → decoded_first text ≡ Some (b, rest) → length rest < length text
decoded_first-shorter [] b rest is = grind (arith, common_steps, is)
decoded_first-shorter (x ∷ []) b rest is = grind (arith, common_steps, is)
decoded_first-shorter (x ∷ h ∷ []) b rest is = grind (arith, common_steps, is)
decoded_first-shorter (x ∷ h ∷ l ∷ ts) b rest is = grind (arith, common_steps, is)

-- a path that spells a first byte is one where the rest is
pub is_some-decoded : (text : List ℕ) (b : ℕ) (rest : List ℕ) → decoded_first text ≡ Some (b, rest) → is_some (path_bytes text) ≡ is_some (path_bytes rest)
is_some-decoded text b rest is = rw (decoded-first text b rest is) (is_some-before b (path_bytes rest))

-- a path's bytes behind some others
pub behind-decoded : (front : List ℕ) (text : List ℕ) (b : ℕ) (rest : List ℕ) → decoded_first text ≡ Some (b, rest) → option_map (λ bs. front ++ bs) (path_bytes text) ≡ option_map (λ bs. (front ++ b ∷ []) ++ bs) (path_bytes rest)
behind-decoded front text b rest is = rw (decoded-first text b rest is) (behind-before front b (path_bytes rest))

-- a value that is there
pub or_empty-some : (o : Option (List ℕ)) → is_some o ≡ true → Some (or_empty o) ≡ o
or_empty-some None is = grind (arith, common_steps, is)
or_empty-some (Some bs) is = refl

-- and one that is not
pub none-is : (o : Option (List ℕ)) → is_some o ≡ false → None ≡ o
none-is None is = refl
none-is (Some bs) is = grind (arith, common_steps, is)

-- where a path that can be read spells no first byte, no bytes are left
pub decoded-end : (text : List ℕ) (whole : Option (List ℕ)) (front : List ℕ) → decoded_first text ≡ None → is_some whole ≡ true → whole ≡ option_map (λ bs. front ++ bs) (path_bytes text) → or_empty whole ≡ front
unfolding path_bytes
decoded-end [] whole front is readable split = rw split (append-nil front)
decoded-end (b ∷ bs) whole front is readable split =
    let e : path_bytes (b ∷ bs) ≡ None = grind (arith, common_steps, decoded-no_first (b ∷ bs) is) in
    grind (arith, common_steps, e, split, readable)

-- whether a text that spells no first byte is a path
pub is_some-end : (text : List ℕ) → decoded_first text ≡ None → is_some (path_bytes text) ≡ (length text == 0)
is_some-end text is = rw (decoded-no_first text is) (search rules)
