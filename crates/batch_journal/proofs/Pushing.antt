-- One image more in a batch.
use Rattle.std.proofs.Common.{◌≡◌, ℕ, zero, suc, ◌+◌, ◌-◌, ◌*◌, ◌^◌, ◌≤◌, ◌<◌, List, [], ◌∷◌, ◌++◌, length, take, drop, replicate, slice_index, refl, sym, ◌∙◌, ap, subst, arith, append-nil, length-append, inl, inr, ◌==◌, ◌&&◌, true, false, Some, None, cond}
use Rattle.std.proofs.lemmas.List.{take_all, drop_at, drop-append-le, take-append-le, length-drop, drop-take, drop-drop}
use Rattle.std.proofs.lemmas.Bool.{and_parts, cases_Bool}
use Rattle.layout.specs.Places.{Sizes, is_journaled}
use Rattle.batch_journal.specs.Blocks.{AreJournaled}
use Rattle.batch_journal.proofs.Images.{some_none}
use Rattle.byteorder.specs.Endian.{little_number, little_bytes}
use Rattle.byteorder.specs.Numbers.{little_from-take, little_number-reads_back, length-bytes_low_first}
use Rattle.tier_device.specs.Media.{overwritten, Torn}
use Rattle.tier_device.specs.RecordLaws.{torn_overwritten}
use Rattle.batch_journal.specs.Images.{slice, image_count, target_at, image_at, images_from, images_of, rest_of_head, image_for, Rises, next_from, next_of}
use Rattle.layout.specs.Bytes.{are_zero}
use Rattle.batch_journal.specs.View.{IsBatch}
use Rattle.batch_journal.proofs.Bytes.{slice_behind, slice_apart, slice_written}
use Rattle.batch_journal.proofs.Meaning.{number_front, image_front}

pub number_slice : (b : List ℕ) (p : ℕ) → target_at b p ≡ little_number 4 (slice (4 + 4 * p) 4 b)
unfolding target_at
number_slice b p = sym (little_from-take 0 4 4 (drop (4 + 4 * p) b) (omega arith))

images_more : (b : List ℕ) (p n : ℕ) → images_from b p (suc n) ≡ images_from b p n ++ (target_at b (p + n), image_at b (p + n)) ∷ []
images_more b p zero =
    let e : p ≡ p + 0 = omega arith in
    ap (λ q. (target_at b q, image_at b q) ∷ []) e
images_more b p (suc n) =
    let e : p + 1 + n ≡ p + suc n = omega arith in
    let more : images_from b (p + 1) (suc n) ≡ images_from b (p + 1) n ++ (target_at b (p + suc n), image_at b (p + suc n)) ∷ [] =
    images_more b (p + 1) n ∙ ap (λ q. images_from b (p + 1) n ++ (target_at b q, image_at b q) ∷ []) e in
    ap (λ (l : List (ℕ × List ℕ)). (target_at b p, image_at b p) ∷ l) more

images_each : (b c : List ℕ) (p n : ℕ) → ((q : ℕ) → p ≤ q → q < p + n → target_at b q ≡ target_at c q) → ((q : ℕ) → p ≤ q → q < p + n → image_at b q ≡ image_at c q) → images_from b p n ≡ images_from c p n
images_each b c p zero numbers images = refl
images_each b c p (suc n) numbers images =
    λ i. (numbers p (omega arith) (omega arith) i, images p (omega arith) (omega arith) i)
    ∷ images_each b c (p + 1) n (λ q low high. numbers q (omega (arith, low)) (omega (arith, high))) (λ q low high. images q (omega (arith, low)) (omega (arith, high))) i

word_reads : (x : ℕ) → x < 2 ^ 32 → little_number 4 (little_bytes 4 x) ≡ x
word_reads x small = ap (little_number 4) (sym (append-nil (little_bytes 4 x))) ∙ little_number-reads_back 4 x [] (omega (arith, small))

count_written : (b : List ℕ) (x : ℕ) → x < 2 ^ 32 → image_count (overwritten b 0 (little_bytes 4 x)) ≡ x
unfolding image_count
count_written b x small = little_number-reads_back 4 x (drop (0 + length (little_bytes 4 x)) b) (omega (arith, small))

-- ---- bytes that are zero

pub zero_drop : (n : ℕ) (l : List ℕ) → are_zero l ≡ true → are_zero (drop n l) ≡ true
zero_drop zero l is = is
zero_drop (suc n) [] is = is
zero_drop (suc n) (x ∷ xs) is = zero_drop n xs (and_parts (x == 0) (are_zero xs) is).1

zero_take : (n : ℕ) (l : List ℕ) → are_zero l ≡ true → are_zero (take n l) ≡ true
zero_take zero l is = refl
zero_take (suc n) [] is = refl
zero_take (suc n) (x ∷ xs) is =
    let parts = and_parts (x == 0) (are_zero xs) is in
    ap (λ b. b && are_zero (take n xs)) parts.0 ∙ zero_take n xs parts.1

zero_zeros : (n : ℕ) → are_zero (replicate n 0) ≡ true
zero_zeros zero = refl
zero_zeros (suc n) = zero_zeros n

pub zeros_rest : (n : ℕ) (b : List ℕ) → b ≡ replicate n 0 → are_zero (rest_of_head b) ≡ true
zeros_rest n b is =
    let at = 4 + 4 * image_count b in
    let size = 4092 - 4 * image_count b in
    zero_take size (drop at b) (zero_drop at b (ap are_zero is ∙ zero_zeros n))

-- ---- numbers that rise

pub next_more : (low : ℕ) (images : List (ℕ × List ℕ)) (image : ℕ × List ℕ) → next_from low (images ++ image ∷ []) ≡ image.0 + 1
next_more low [] image = refl
next_more low (x ∷ xs) image = next_more (x.0 + 1) xs image

pub rises_more : (low : ℕ) (images : List (ℕ × List ℕ)) (image : ℕ × List ℕ) → Rises low images → next_from low images ≤ image.0 → Rises low (images ++ image ∷ [])
rises_more low [] image rises le = (le, tt)
rises_more low (x ∷ xs) image rises le = (rises.0, rises_more (x.0 + 1) xs image rises.1 le)

module _ (bytes image : List ℕ) (n next number : ℕ) (is : IsBatch n next bytes) (few : n < 1023) (small : number < 2 ^ 32) (size : length image ≡ 4096) where
  abbrev pub b1 : List ℕ
  b1 = bytes ++ image

  abbrev pub b2 : List ℕ
  b2 = overwritten b1 (4 + 4 * n) (little_bytes 4 number)

  abbrev pub b3 : List ℕ
  b3 = overwritten b2 0 (little_bytes 4 (n + 1))

  four : (x : ℕ) → length (little_bytes 4 x) ≡ 4
  four x = length-bytes_low_first 0 4 x

  long1 : length b1 ≡ 4096 * n + 8192
  long1 = omega (arith, length-append bytes image, size, is.long)

  torn2 : Torn (4 + 4 * n) 4 b1 b2
  torn2 = subst (λ l. Torn (4 + 4 * n) l b1 (overwritten b1 (4 + 4 * n) (little_bytes 4 number))) (four number) (torn_overwritten b1 (4 + 4 * n) (little_bytes 4 number) (omega (arith, long1, four number, few)))

  torn3 : Torn 0 4 b2 b3
  torn3 = subst (λ l. Torn 0 l b2 (overwritten b2 0 (little_bytes 4 (n + 1)))) (four (n + 1)) (torn_overwritten b2 0 (little_bytes 4 (n + 1)) (omega (arith, long1, torn2.same_length, four (n + 1))))

  images_kept : (p : ℕ) → slice (4096 * p + 4096) 4096 b3 ≡ slice (4096 * p + 4096) 4096 b1
  images_kept p = slice_behind 0 4 b2 b3 torn3 (4096 * p + 4096) 4096 (omega arith) ∙ slice_behind (4 + 4 * n) 4 b1 b2 torn2 (4096 * p + 4096) 4096 (omega (arith, few))

  numbers : (p : ℕ) → 0 ≤ p → p < 0 + n → target_at b3 p ≡ target_at bytes p
  numbers p low lt =
      number_slice b3 p ∙ ap (little_number 4) (slice_behind 0 4 b2 b3 torn3 (4 + 4 * p) 4 (omega arith) ∙ slice_apart (4 + 4 * n) 4 b1 b2 torn2 (4 + 4 * p) 4 (inl (omega (arith, lt))))
      ∙ sym (number_slice b1 p) ∙ number_front bytes image p (omega (arith, lt, is.long, few))

  images : (p : ℕ) → 0 ≤ p → p < 0 + n → image_at b3 p ≡ image_at bytes p
  images p low lt = images_kept p ∙ image_front bytes image p (omega (arith, lt, is.long))

  last_number : target_at b3 n ≡ number
  last_number =
      number_slice b3 n ∙ ap (little_number 4) (slice_behind 0 4 b2 b3 torn3 (4 + 4 * n) 4 (omega arith) ∙ slice_written b1 (4 + 4 * n) (little_bytes 4 number) 4 (sym (four number)) (omega (arith, long1, few)))
      ∙ word_reads number small

  last_image : image_at b3 n ≡ image
  last_image = images_kept n ∙ ap (take 4096) (drop_at bytes image (4096 * n + 4096) (sym is.long)) ∙ take_all 4096 image (omega (arith, size))

  count3 : image_count b3 ≡ n + 1
  count3 = count_written b2 (n + 1) (omega (arith, few))

  count3_suc : image_count b3 ≡ suc n
  count3_suc = omega (arith, count3)

  at_rest : 4 + 4 * image_count b3 ≡ 8 + 4 * n
  at_rest = omega (arith, count3)

  size_rest : 4092 - 4 * image_count b3 ≡ 4088 - 4 * n
  size_rest = omega (arith, count3)

  split_drop : (k : ℕ) (l : List ℕ) → drop (4 + k) l ≡ drop 4 (drop k l)
  split_drop k l = let e : k + 4 ≡ 4 + k = omega arith in sym (drop-drop 4 k l ∙ ap (λ j. drop j l) e)

  from_zero : 0 + n ≡ n
  from_zero = omega arith

  pub pushed_images : images_of b3 ≡ images_of bytes ++ (number, image) ∷ []
  pushed_images =
      ap (images_from b3 0) count3_suc ∙ images_more b3 0 n ∙ ap (λ q. images_from b3 0 n ++ (target_at b3 q, image_at b3 q) ∷ []) from_zero ∙ (λ i. images_each b3 bytes 0 n numbers images i ++ (last_number i, last_image i) ∷ [])
      ∙ ap (λ k. images_from bytes 0 k ++ (number, image) ∷ []) is.counts

  rest_pushed : are_zero (rest_of_head b3) ≡ true
  rest_pushed =
      let m = 4088 - 4 * n in
      let here : rest_of_head b3 ≡ slice (8 + 4 * n) m b3 = λ i. slice (at_rest i) (size_rest i) b3 in
      let front : slice (8 + 4 * n) m b1 ≡ slice (8 + 4 * n) m bytes =
      ap (take m) (drop-append-le (8 + 4 * n) bytes image (omega (arith, is.long, few)))
      ∙ take-append-le m (drop (8 + 4 * n) bytes) image (omega (arith, is.long, few, length-drop (8 + 4 * n) bytes)) in
      let more : 4 + (4 + 4 * n) ≡ 8 + 4 * n = omega arith in
      let less : 4092 - 4 * n ≡ 4 + m = omega (arith, few) in
      let later : slice (8 + 4 * n) m bytes ≡ drop 4 (slice (4 + 4 * n) (4092 - 4 * n) bytes) =
      ap (λ k. take m (drop k bytes)) (sym more) ∙ ap (take m) (split_drop (4 + 4 * n) bytes) ∙ sym (drop-take 4 m (drop (4 + 4 * n) bytes))
      ∙ ap (λ k. drop 4 (take k (drop (4 + 4 * n) bytes))) (sym less) in
      let old : rest_of_head bytes ≡ slice (4 + 4 * n) (4092 - 4 * n) bytes = ap (λ k. slice (4 + 4 * k) (4092 - 4 * k) bytes) (sym is.counts) in
      ap are_zero (here ∙ slice_behind 0 4 b2 b3 torn3 (8 + 4 * n) m (omega arith) ∙ slice_behind (4 + 4 * n) 4 b1 b2 torn2 (8 + 4 * n) m (omega arith) ∙ front ∙ later)
      ∙ zero_drop 4 (slice (4 + 4 * n) (4092 - 4 * n) bytes) (ap are_zero (sym old) ∙ is.rest)

  pub pushed_next : next_of (images_of b3) ≡ number + 1
  pushed_next = ap next_of pushed_images ∙ next_more 0 (images_of bytes) (number, image)

  pub pushed_is : next ≤ number → IsBatch (n + 1) (number + 1) b3
  pushed_is le = record {
    counts = sym count3;
    long = omega (arith, torn3.same_length, torn2.same_length, long1);
    few = omega (arith, few);
    rises = subst (λ (is : List (ℕ × List ℕ)). Rises 0 is) (sym pushed_images) (rises_more 0 (images_of bytes) (number, image) is.rises (omega (arith, le, is.next_is)));
    next_is = sym pushed_next;
    rest = rest_pushed;
  }

zero_at : (n k : ℕ) → slice_index (replicate n 0) k ≡ 0
zero_at zero k = refl
zero_at (suc n) zero = refl
zero_at (suc n) (suc k) = zero_at n k

pub zeros_count : (n : ℕ) (b : List ℕ) → b ≡ replicate n 0 → image_count b ≡ 0
unfolding image_count
zeros_count n b is = ap (little_number 4) is ∙ omega (arith, zero_at n 0, zero_at n 1, zero_at n 2, zero_at n 3)

-- ---- blocks that a batch may write

pub node_place : (g : Sizes) (k : ℕ) → k < 1023 → is_journaled g (292 + k) ≡ true
node_place g k lt = grind arith

pub journaled_more : (g : Sizes) (images : List (ℕ × List ℕ)) (image : ℕ × List ℕ) → AreJournaled g images → is_journaled g image.0 ≡ true → AreJournaled g (images ++ image ∷ [])
journaled_more g [] image are is = (is, tt)
journaled_more g (x ∷ xs) image are is = (are.0, journaled_more g xs image are.1 is)

pub unnamed_more : (images : List (ℕ × List ℕ)) (n : ℕ) (bytes : List ℕ) → image_for 0 images ≡ None → image_for 0 (images ++ (292 + n, bytes) ∷ []) ≡ None
unnamed_more [] n bytes none = let apart : (0 == (292 + n)) ≡ false = grind arith in ap (λ b. cond b (Some bytes) None) apart
unnamed_more (x ∷ xs) n bytes none = elim (cases_Bool (0 == x.0)) [
  | inl is ↦ absurd (some_none x.1 (sym (ap (λ b. cond b (Some x.1) (image_for 0 xs)) is) ∙ none))
  | inr off ↦ ap (λ b. cond b (Some x.1) (image_for 0 (xs ++ (292 + n, bytes) ∷ []))) off ∙ unnamed_more xs n bytes (sym (ap (λ b. cond b (Some x.1) (image_for 0 xs)) off) ∙ none)
]
