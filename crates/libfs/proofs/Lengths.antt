-- How long a block of a file is.
use Rattle.std.proofs.Common.{◌≡◌, ◌↔◌, ℕ, ◌-◌, ◌*◌, ◌≤◌, true, List, ◌++◌, length, take, drop, min, Option, Some, None, ap, sym, ◌∙◌, arith}
use Rattle.std.specs.Prelude.{◌==◌}
use Rattle.std.proofs.Math.Decide.{dec_le}
use Rattle.std.proofs.lemmas.Bool.{eqb-true, eq-eqb}
use Rattle.std.proofs.lemmas.List.{take-append-le, take_all, length-drop, length-take-le}
use Rattle.client_log.specs.call_effects.NodeView.{NodeView, FileView, DirView}
use Rattle.client_view.specs.KnowledgeTables.{Held, copy_at, knows, size_known}
use Rattle.client_view.specs.BlockPut.{IsBlockLong}

-- ---- by the copy of the file

sized : (c : Option (Option NodeView)) (size : ℕ) → Some size ≡ size_known c → (names : ℕ) × (c ≡ Some (Some (FileView names size)))
sized None size is = absurd (cc)
sized (Some None) size is = absurd (cc)
sized (Some (Some (FileView names s))) size is = (names, cc)
sized (Some (Some (DirView names entries))) size is = absurd (cc)

same_size : (c : Option (Option NodeView)) (size names other : ℕ) → Some size ≡ size_known c → c ≡ Some (Some (FileView names other)) → size ≡ other
same_size c size names other is copy = let both : Some size ≡ Some other = is ∙ ap size_known copy in cc

pub as_long : (h : Held) (i b size len n : ℕ) → Some size ≡ size_known (copy_at h.copies i) → n ≡ min 4096 (size - 4096 * b) → (bytes : List ℕ) → length bytes ≡ len → ((len == n) ≡ true) ↔ IsBlockLong (knows h) i b bytes
as_long h i b size len n is least bytes long = (there, back)
  where
    there : (len == n) ≡ true → IsBlockLong (knows h) i b bytes
    there same = let file = sized (copy_at h.copies i) size is in record { names = file.0; size = size; copy = file.1; long = long ∙ eqb-true len n same ∙ least }

    back : IsBlockLong (knows h) i b bytes → (len == n) ≡ true
    back l = eq-eqb len n (sym long ∙ l.long ∙ ap (λ s. min 4096 (s - 4096 * b)) (sym (same_size (copy_at h.copies i) size l.names l.size is l.copy)) ∙ sym least)

pub no_file : (h : Held) (i b : ℕ) → None ≡ size_known (copy_at h.copies i) → (bytes : List ℕ) → IsBlockLong (knows h) i b bytes → ⊥
no_file h i b none bytes l = let clash : ◌≡◌ {A = Option ℕ} None (Some l.size) = none ∙ ap size_known l.copy in cc

-- ---- as it is read

cut : (whole : List ℕ) (count : ℕ) → count ≡ min 4096 (length whole) → take count whole ≡ take 4096 whole
cut whole count is = elim (dec_le 4096 (length whole)) [
  | yes enough ↦ let all : count ≡ 4096 = omega (arith, is, enough) in ap (λ n. take n whole) all
  | no short ↦ take_all count whole (omega (arith, is, short)) ∙ sym (take_all 4096 whole (omega (arith, short)))
]

-- what is read of a file from a block on by a buffer of one block is that block
pub read_is_block : (bytes old new : List ℕ) (at count : ℕ) → length old ≡ 4096 → count ≡ min (length old) (length bytes - at) → new ≡ take count (drop at bytes) ++ drop count old → take count new ≡ take 4096 (drop at bytes)
read_is_block bytes old new at count whole is read =
    let left : length (drop at bytes) ≡ length bytes - at = length-drop at bytes in
    let few : count ≡ min 4096 (length (drop at bytes)) = omega (arith, whole, is, left) in
    let within : count ≤ length (drop at bytes) = omega (arith, few) in
    let taken : length (take count (drop at bytes)) ≡ count = length-take-le count (drop at bytes) within in
    ap (take count) read
    ∙ take-append-le count (take count (drop at bytes)) (drop count old) (omega (arith, taken))
    ∙ take_all count (take count (drop at bytes)) (omega (arith, taken))
    ∙ cut (drop at bytes) count few
