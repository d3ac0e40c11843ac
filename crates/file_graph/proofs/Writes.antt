-- A file that is written over as far as it goes, and appended to behind its end, is as the definition has it.
use Rattle.std.proofs.Common.{◌≡◌, ℕ, ◌+◌, ◌-◌, ◌≤◌, List, [], ◌++◌, length, take, drop, min, refl, ap, ◌∙◌, arith, inl, inr, append_assoc}
use Rattle.std.proofs.lemmas.Bool.{cases_lt}
use Rattle.std.proofs.lemmas.List.{append-nil, take_all, drop_all, length-append, take-append-le, take-append-drop, length-take, length-drop}
use Rattle.std.proofs.Math.Seq.{drop-append_seam}
use Rattle.posix_calls.specs.Content.{with_bytes}

pub write_within : (at : ℕ) (new old : List ℕ) → at + length new ≤ length old → take at old ++ new ++ drop (at + length new) old ≡ with_bytes at new old
write_within at new old fits =
    let none : at - length old ≡ 0 = omega arith in
    rw (none, append-nil (take at old)) refl

-- bytes that are appended as far as they pass the end, and otherwise written over what is there
pub write_over : (at w : ℕ) (new old : List ℕ) → at ≤ length old → w ≡ min (length new) (length old - at) → take at (old ++ drop w new) ++ take w new ++ drop (at + w) (old ++ drop w new) ≡ with_bytes at new old
write_over at w new old front is =
    elim (cases_lt (length old - at) (length new)) [
      | inl past ↦
          let cut : w ≡ length old - at = omega (arith, is) in
          let seam : drop (at + w) (old ++ drop w new) ≡ drop w new = ap (λ (n : ℕ). drop n (old ++ drop w new)) (omega (arith, cut, front)) ∙ drop-append_seam old (drop w new) in
          let none : at - length old ≡ 0 = omega arith in
          let nothing : drop (at + length new) old ≡ [] = drop_all (at + length new) old (omega arith) in
          rw (take-append-le at old (drop w new) front, seam, none, nothing, append-nil (take at old), append-nil (take at old ++ new))
          (append_assoc (take at old) (take w new) (drop w new) ∙ ap (λ (x : List ℕ). take at old ++ x) (take-append-drop w new))
      | inr within ↦
          let all : w ≡ length new = omega (arith, is) in
          rw (all, drop_all (length new) new (omega arith), take_all (length new) new (omega arith), append-nil old) (write_within at new old (omega (arith, front)))
    ]

-- what a vector has after its slice was written over
pub settled : (len at : ℕ) (new items r whole : List ℕ) → r ≡ items → length r ≡ len → at + length new ≤ length r → whole ≡ take at r ++ new ++ drop (at + length new) r
    → take len (whole ++ drop (length whole) items) ≡ take at items ++ new ++ drop (at + length new) items
settled len at new items r whole same long fits is =
    let size : length whole ≡ length r = ap length is ∙ length-append (take at r ++ new) (drop (at + length new) r) ∙ omega (arith, length-append (take at r) new, length-take at r, length-drop (at + length new) r) in
    take-append-le len whole (drop (length whole) items) (omega (arith, size, long))
    ∙ take_all len whole (omega (arith, size, long))
    ∙ is
    ∙ ap (λ (x : List ℕ). take at x ++ new ++ drop (at + length new) x) same
