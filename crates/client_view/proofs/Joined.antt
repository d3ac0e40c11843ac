-- Blocks put one behind the other, where all are there.
use Rattle.std.proofs.Common.{◌≡◌, ℕ, zero, suc, ◌+◌, ◌-◌, ◌*◌, ◌/◌, ◌%◌, ◌<◌, List, [], ◌∷◌, ◌++◌, length, take, drop, Option, Some, None, refl, ap, sym, ◌∙◌, true, arith, append_assoc, append-nil}
use Rattle.std.specs.Prelude.{is_some, option_map}
use Rattle.posix_calls.specs.Content.{range}
use Rattle.posix_calls.specs.Part.{blocks_touched}
use Rattle.posix_calls.specs.declared.limits.TheConstants.{UNIT_BYTES}
use Rattle.client_plan.specs.call_effects.Blocks.{joined_bytes, blocks_joined, range_by}

-- the first block, and what follows it
split : (block : List ℕ) (o : Option (List ℕ)) (joined : List ℕ) → joined_bytes (Some block) o ≡ Some joined → (more : List ℕ) × (o ≡ Some more) × (joined ≡ block ++ more)
split block None joined e = absurd (cc)
split block (Some more) joined e = (more, refl, cc)

abbrev none_at_all : List ℕ
none_at_all = []

drop_none : (n : ℕ) → drop n none_at_all ≡ none_at_all
drop_none zero = refl
drop_none (suc n) = refl

take_none : (n : ℕ) → take n none_at_all ≡ none_at_all
take_none zero = refl
take_none (suc n) = refl

-- a range of some bytes that others follow, and what is left of it in those
drop_past : (n : ℕ) (xs ys : List ℕ) → drop n (xs ++ ys) ≡ drop n xs ++ drop (n - length xs) ys
drop_past n [] ys = let all : n ≡ n - 0 = omega arith in ap (λ (l : List ℕ). l ++ drop n ys) (sym (drop_none n)) ∙ ap (λ m. drop n none_at_all ++ drop m ys) all
drop_past zero (x ∷ xs) ys = let none : 0 ≡ 0 - suc (length xs) = omega arith in ap (λ m. (x ∷ xs) ++ drop m ys) none
drop_past (suc n) (x ∷ xs) ys = let less : n - length xs ≡ suc n - suc (length xs) = omega arith in drop_past n xs ys ∙ ap (λ m. drop n xs ++ drop m ys) less

take_past : (n : ℕ) (xs ys : List ℕ) → take n (xs ++ ys) ≡ take n xs ++ take (n - length (take n xs)) ys
take_past n [] ys =
    let none : length (take n none_at_all) ≡ 0 = ap length (take_none n) in
    let all : n ≡ n - length (take n none_at_all) = omega (arith, none) in
    ap (λ (l : List ℕ). l ++ take n ys) (sym (take_none n)) ∙ ap (λ m. take n none_at_all ++ take m ys) all
take_past zero (x ∷ xs) ys = refl
take_past (suc n) (x ∷ xs) ys =
    let less : n - length (take n xs) ≡ suc n - suc (length (take n xs)) = omega arith in
    ap (λ (l : List ℕ). x ∷ l) (take_past n xs ys) ∙ ap (λ m. x ∷ (take n xs ++ take m ys)) less

range_past : (skip len : ℕ) (block more : List ℕ) → range skip len (block ++ more) ≡ range skip len block ++ range (skip - length block) (len - length (range skip len block)) more
range_past skip len block more = ap (take len) (drop_past skip block more) ∙ take_past len (drop skip block) (drop (skip - length block) more)

range_none : (skip len : ℕ) → range skip len [] ≡ []
range_none skip len = ap (take len) (drop_none skip) ∙ take_none len

module _ (blocks : ℕ → Option (List ℕ)) where
  joined_step : (first count : ℕ) → 0 < count → blocks_joined blocks first count ≡ joined_bytes (blocks first) (blocks_joined blocks (first + 1) (count - 1))
  joined_step first zero some = absurd (omega arith)
  joined_step first (suc count) some = let less : count ≡ suc count - 1 = omega arith in ap (λ n. joined_bytes (blocks first) (blocks_joined blocks (first + 1) n)) less

  -- no block has bytes
  pub joins_none : (first skip len : ℕ) (old : List ℕ) (joined : List ℕ) → blocks_joined blocks first 0 ≡ Some joined → old ≡ old ++ range skip len joined
  joins_none first skip len old joined all = let none : [] ≡ joined = cc in sym (append-nil old) ∙ ap (λ xs. old ++ xs) (sym (range_none skip len) ∙ ap (range skip len) none)

  -- what is put behind the part of the first block is the part of what follows it
  pub joins : (first count skip len : ℕ) (block old mid new : List ℕ) (behind : ℕ × ℕ) → 0 < count → Some block ≡ blocks first → mid ≡ old ++ range skip len block → behind.0 ≡ skip - length block → behind.1 ≡ len - length (range skip len block)
      → ((joined : List ℕ) → blocks_joined blocks (first + 1) (count - 1) ≡ Some joined → new ≡ mid ++ range behind.0 behind.1 joined) → (joined : List ℕ) → blocks_joined blocks first count ≡ Some joined → new ≡ old ++ range skip len joined
  joins first count skip len block old mid new behind some is at skipped left rest joined all =
      let parts = split block (blocks_joined blocks (first + 1) (count - 1)) joined (ap (λ o. joined_bytes o (blocks_joined blocks (first + 1) (count - 1))) is ∙ sym (joined_step first count some) ∙ all) in
      rest parts.0 parts.1 ∙ (λ k. at k ++ range (skipped k) (left k) parts.0) ∙ append_assoc old (range skip len block) (range (skip - length block) (len - length (range skip len block)) parts.0)
      ∙ ap (λ xs. old ++ xs) (sym (range_past skip len block parts.0) ∙ ap (range skip len) (sym parts.2))

-- a range of what was joined
cut_of : (o : Option (List ℕ)) (items : List ℕ) (skip count : ℕ) → is_some o ≡ true → ((joined : List ℕ) → o ≡ Some joined → items ≡ [] ++ range skip count joined) → Some items ≡ option_map (range skip count) o
cut_of None items skip count some all = absurd (cc)
cut_of (Some joined) items skip count some all = ap Some (all joined refl)

pub read_is : (blocks : ℕ → Option (List ℕ)) (at count touched : ℕ) (items : List ℕ) → touched ≡ blocks_touched at count → is_some (blocks_joined blocks (at / UNIT_BYTES) touched) ≡ true → ((joined : List ℕ) → blocks_joined blocks (at / UNIT_BYTES) touched ≡ Some joined → items ≡ [] ++ range (at % UNIT_BYTES) count joined) → Some items ≡ range_by blocks at count
read_is blocks at count touched items is some all =
    let skip : at % UNIT_BYTES ≡ at - UNIT_BYTES * (at / UNIT_BYTES) = omega arith in
    cut_of (blocks_joined blocks (at / UNIT_BYTES) touched) items (at % UNIT_BYTES) count some all ∙ ap (λ n. option_map (range n count) (blocks_joined blocks (at / UNIT_BYTES) touched)) skip ∙ ap (λ n. option_map (range (at - UNIT_BYTES * (at / UNIT_BYTES)) count) (blocks_joined blocks (at / UNIT_BYTES) n)) is
