-- What the reads of an opening give.
use Rattle.std.proofs.Common.{◌≡◌, ℕ, ◌+◌, ◌*◌, ◌≤◌, List, ◌++◌, length, take, drop, get_or, sym, ◌∙◌, ap, arith}
use Rattle.std.proofs.lemmas.List.{length-take-le, length-drop, get_or-take, drop-take, drop-drop, take-append-drop}
use Rattle.byteorder.specs.Endian.{little_number}
use Rattle.batch_journal.specs.Images.{slice, image_count}
use Rattle.batch_journal.specs.Blocks.{gate_of, rest_of_gate, area_of}
use Rattle.batch_journal.specs.BatchReads.{IsBatchRead}
use Rattle.batch_journal.proofs.Bytes.{take_shorter}
use Rattle.batch_journal.proofs.Meaning.{count_front, Staged, staged_front}

pub slice_long : (at n : ℕ) (c : List ℕ) → at + n ≤ length c → length (slice at n c) ≡ n
slice_long at n c le = length-take-le n (drop at c) (omega (arith, le, length-drop at c))

pub gate_of_block : (c b : List ℕ) → b ≡ slice 139264 4096 c → get_or b 0 0 ≡ get_or (gate_of c) 0 0
gate_of_block c b is = ap (λ (l : List ℕ). get_or l 0 0) is ∙ get_or-take 4096 (drop 139264 c) 0 0 (omega arith) ∙ sym (get_or-take 1 (drop 139264 c) 0 0 (omega arith))

pub rest_of_block : (c b : List ℕ) → b ≡ slice 139264 4096 c → drop 1 b ≡ rest_of_gate c
rest_of_block c b is = ap (drop 1) is ∙ drop-take 1 4095 (drop 139264 c) ∙ ap (take 4095) (drop-drop 1 139264 c)

pub front_count : (area bytes : List ℕ) (m : ℕ) → take m area ≡ bytes → 4 ≤ length bytes → image_count area ≡ image_count bytes
front_count area bytes m front le =
    ap image_count (sym (take-append-drop m area) ∙ ap (λ l. l ++ drop m area) front) ∙ count_front bytes (drop m area) le

-- the count alone
pub count_read : (c b : List ℕ) → 1196032 ≤ length c → b ≡ slice 143360 4 c → image_count b ≡ image_count (area_of c)
count_read c b size is =
    let long : length b ≡ 4 = ap length is ∙ slice_long 143360 4 c (omega (arith, size)) in
    sym (front_count (area_of c) b 4 (take_shorter 4 1052672 (drop 143360 c) (omega arith) ∙ sym is) (omega (arith, long)))

-- head and images
pub is_read : (c : List ℕ) (n : ℕ) (bytes : List ℕ) → 1196032 ≤ length c → n ≡ image_count (area_of c) → 1 ≤ n → n ≤ 256 → bytes ≡ slice 143360 (4096 * n + 4096) c → IsBatchRead c bytes
is_read c n bytes size count some few is =
    let m = 4096 * n + 4096 in
    let long : length bytes ≡ m = ap length is ∙ slice_long 143360 m c (omega (arith, size, few)) in
    let front : take m (area_of c) ≡ bytes = take_shorter m 1052672 (drop 143360 c) (omega (arith, few)) ∙ sym is in
    let same : n ≡ image_count bytes = count ∙ front_count (area_of c) bytes m front (omega (arith, long)) in
    let staged : Staged bytes (area_of c) = staged_front (area_of c) bytes (ap (λ k. take k (area_of c)) long ∙ front) (omega (arith, same, long)) (omega (arith, same, few)) in
    record {
      some = omega (arith, same, some);
      few = omega (arith, same, few);
      long = omega (arith, same, long);
      staged = staged.images;
      rest = staged.rest;
    }

pub count_is : (b : List ℕ) (x : ℕ) → x ≡ little_number 4 b → x ≡ image_count b
unfolding image_count
count_is b x is = is
