-- Bytes that are no text are no name.
use Rattle.std.proofs.Common.{◌≡◌, ◌<◌, List, [], ◌∷◌, ℕ, zero, suc, nat_lt, slice_index, true, false, sym, subst, arith, rules, tests}
use Rattle.std.specs.List.{list_all}
use Rattle.std.specs.Str.{bytes_eq, IsUtf8}
use Rattle.std.proofs.lemmas.Bool.{false_from_ne_true, and_parts}
use Rattle.std.proofs.lemmas.Slice.Eq.{bytes_eq-Decides}
use Rattle.std.proofs.lemmas.Str.{IsUtf8-from_ascii}

-- each byte of a name is below 128
below : (bs : List ℕ) → list_all (λ b. nat_lt b 128) bs ≡ true → (i : ℕ) → slice_index bs i < 128
below [] is i = omega arith
below (b ∷ bs) is zero = let front = (and_parts (nat_lt b 128) (list_all (λ b. nat_lt b 128) bs) is).0 in search (rules, tests)
below (b ∷ bs) is (suc i) = below bs (and_parts (nat_lt b 128) (list_all (λ b. nat_lt b 128) bs) is).1 i

-- what is no text is not that name
pub no_name : (w name : List ℕ) → list_all (λ b. nat_lt b 128) name ≡ true → (IsUtf8 w → ⊥) → bytes_eq w name ≡ false
no_name w name text none = false_from_ne_true (bytes_eq w name) (λ e. none (subst IsUtf8 (sym ((bytes_eq-Decides w name).0 e)) (IsUtf8-from_ascii name (below name text))))
