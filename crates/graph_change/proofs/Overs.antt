-- Bytes of a block that are put over those that it had.
use Rattle.std.proofs.Common.{◌≡◌, ◌<◌, ◌≤◌, ℕ, ◌∙◌, List, length, get_or, sym, arith, refl, Option, Some, None}
use Rattle.std.specs.Prelude.{unwrap_or, IsSome}
use Rattle.std.proofs.lemmas.List.{ext_get_or}
use Rattle.std.proofs.lemmas.List.FromFn.{length-map-range_with_len, get_or-map-range_with_len}
use Rattle.posix_calls.specs.declared.limits.TheConstants.{UNIT_BYTES}
use Rattle.graph_change.specs.Change.{Patch, patched_bytes, IsWhole}

pub patched_long : (patch : Patch) (old : List ℕ) → length (patched_bytes patch old) ≡ length old
patched_long patch old = length-map-range_with_len (λ p. unwrap_or (patch p) (get_or old p 0)) 0 (length old)

pub patched_at : (patch : Patch) (old : List ℕ) (p : ℕ) → p < length old → get_or (patched_bytes patch old) p 0 ≡ unwrap_or (patch p) (get_or old p 0)
patched_at patch old p lt = get_or-map-range_with_len (λ q. unwrap_or (patch q) (get_or old q 0)) 0 (length old) p p 0 lt (omega arith)

-- up to a place the bytes are put, and behind it they are the old ones
pub record PutUpTo (patch : Patch) (n : ℕ) (old now : List ℕ) : Type 0 where
  pub long : length now ≡ length old
  pub done : (p : ℕ) → p < n → p < length old → get_or now p 0 ≡ unwrap_or (patch p) (get_or old p 0)
  pub to_do : (p : ℕ) → n ≤ p → get_or now p 0 ≡ get_or old p 0

pub all_over : (patch : Patch) (n : ℕ) (old now : List ℕ) → length old ≤ n → PutUpTo patch n old now → now ≡ patched_bytes patch old
all_over patch n old now end is =
    ext_get_or 0 _ _ (is.long ∙ sym (patched_long patch old)) (λ p h.
    let l = is.long in
    let lt : p < length old = omega (arith, l, h) in
    is.done p (omega (arith, lt, end)) lt ∙ sym (patched_at patch old p lt))

-- what is put at each place needs no old byte
same_value : (o : Option ℕ) (x y : ℕ) → IsSome o → unwrap_or o x ≡ unwrap_or o y
same_value (Some b) x y is = refl
same_value None x y is = absurd cc

pub whole_is_free : (patch : Patch) (one other : List ℕ) → IsWhole patch → length one ≡ UNIT_BYTES → length other ≡ UNIT_BYTES → patched_bytes patch one ≡ patched_bytes patch other
whole_is_free patch one other whole l m =
    let a = patched_long patch one in
    let b = patched_long patch other in
    ext_get_or 0 _ _ (a ∙ l ∙ sym m ∙ sym b) (λ p h.
    let lt : p < length one = omega (arith, a, h) in
    let ml : p < length other = omega (arith, l, m, lt) in
    patched_at patch one p lt ∙ same_value (patch p) (get_or one p 0) (get_or other p 0) (whole p (omega (arith, l, lt))) ∙ sym (patched_at patch other p ml))
