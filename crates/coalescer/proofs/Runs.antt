-- The longest run of records that fits.
use Rattle.std.proofs.Common.{◌≡◌, ℕ, ◌+◌, ◌<◌, ◌≤◌, true, false, List, length, take, drop, ap, sym, ◌∙◌, arith}
use Rattle.std.proofs.lemmas.List.{take-append-drop, take-append-le, length-take-le, take_all}
use Rattle.std.proofs.lemmas.List.Concat.{flat_map-append}
use Rattle.log_record.specs.declared.format.Record.{Record}
use Rattle.coalescer.specs.Records.{effects_in}
use Rattle.coalescer.specs.Weight.{fits_chunk, IsLongestRun}
use Rattle.coalescer.proofs.Counts.{never}

taken_less : (rs : List Record) (k m : ℕ) → k ≤ m → m ≤ length rs → take k (take m rs) ≡ take k rs
taken_less rs k m le short =
    let long = length-take-le m rs short in
    sym (take-append-le k (take m rs) (drop m rs) (omega (arith, le, long)))
    ∙ ap (take k) (take-append-drop m rs)

-- a run that doesn't fit doesn't with more records
longer : (rs : List Record) (k m : ℕ) → k ≤ m → m ≤ length rs → fits_chunk (effects_in (take k rs)) ≡ false → fits_chunk (effects_in (take m rs)) ≡ false
longer rs k m le short h =
    ap (λ xs. fits_chunk (effects_in xs)) (sym (take-append-drop k (take m rs)))
    ∙ ap fits_chunk (flat_map-append (λ (r : Record). r.effects) (take k (take m rs)) (drop k (take m rs)))
    ∙ never (effects_in (take k (take m rs))) (effects_in (drop k (take m rs))) (ap (λ xs. fits_chunk (effects_in xs)) (taken_less rs k m le short) ∙ h)

-- the next record is one too many
pub stopped : (rs : List Record) (n : ℕ) → 0 < n → n < length rs → (1 < n → fits_chunk (effects_in (take n rs)) ≡ true) → fits_chunk (effects_in (take (n + 1) rs)) ≡ false → IsLongestRun rs n
stopped rs n some short fitting over = record {
  some = λ _. omega (arith, some);
  within = omega (arith, short);
  fitting = fitting;
  longest = λ m more le. longer rs (n + 1) m (omega (arith, more)) le over;
}

-- all of them
pub all_of_them : (rs : List Record) → (1 < length rs → fits_chunk (effects_in (take (length rs) rs)) ≡ true) → IsLongestRun rs (length rs)
all_of_them rs fitting = record {
  some = λ some. omega (arith, some);
  within = omega arith;
  fitting = fitting;
  longest = λ m more le. absurd (omega (arith, more, le));
}

-- all of them, where they fit
pub all_fit : (rs : List Record) → fits_chunk (effects_in rs) ≡ true → IsLongestRun rs (length rs)
all_fit rs fits = all_of_them rs (λ _. ap (λ xs. fits_chunk (effects_in xs)) (take_all (length rs) rs (omega arith)) ∙ fits)
