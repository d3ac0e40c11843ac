-- What each write of a commit leaves of the home blocks.
use Rattle.std.proofs.Common.{◌≡◌, ◌⊎◌, inl, inr, ℕ, zero, suc, ◌+◌, ◌-◌, ◌*◌, ◌≤◌, ◌<◌, List, [], ◌∷◌, ◌++◌, length, take, drop, get_or, refl, sym, ◌∙◌, ap, subst, arith, true, false, Bool, Option, Some, None, cond, ◌==◌, IfSome}
use Rattle.std.proofs.lemmas.List.{take-append-drop, drop-append-le, take-append-le, length-drop, drop-drop, drop-take}
use Rattle.std.proofs.lemmas.Bool.{cases_Bool, false≢true}
use Rattle.byteorder.specs.Endian.{little_number}
use Rattle.byteorder.specs.Numbers.{little_from-append}
use Rattle.tier_device.specs.Media.{overwritten, Torn}
use Rattle.batch_journal.specs.Images.{slice, image_count, target_at, image_at, images_from, images_of, rest_of_head, image_for, or_else, with_images}
use Rattle.layout.specs.Bytes.{are_zero}
use Rattle.batch_journal.specs.Blocks.{Blocks, block_of, gate_of, rest_of_gate, is_gate_open, area_of, is_home, home, RisesJournaled, after_batch, ShowsHome}
use Rattle.batch_journal.specs.Volume.{Spells, IsHead, IsJournal, SameJournal, IsAfter}
use Rattle.layout.specs.Places.{Sizes}
use Rattle.batch_journal.specs.Course.{IsPut, Beside, OutsideRun}
use Rattle.batch_journal.proofs.Bytes.{slice_apart, slice_written, take_shorter}
use Rattle.batch_journal.proofs.Images.{home_either, length-images_of}

pub Open : List (ℕ × List ℕ) → List ℕ → Type 0
Open images c = (is_gate_open c ≡ true) × (images_of (area_of c) ≡ images)

-- the home blocks, block by block
at_home_open : (images : List (ℕ × List ℕ)) (c : List ℕ) (k : ℕ) → is_home k ≡ true → is_gate_open c ≡ true → images_of (area_of c) ≡ images → home c k ≡ with_images images (block_of c) k
unfolding home
at_home_open images c k at_home opened staged =
    ap (λ b. cond b (cond (is_gate_open c) (with_images (images_of (area_of c)) (block_of c) k) (block_of c k)) []) at_home
    ∙ ap (λ b. cond b (with_images (images_of (area_of c)) (block_of c) k) (block_of c k)) opened ∙ ap (λ is. with_images is (block_of c) k) staged

at_home_closed : (c : List ℕ) (k : ℕ) → is_home k ≡ true → is_gate_open c ≡ false → home c k ≡ block_of c k
unfolding home
at_home_closed c k at_home closed =
    ap (λ b. cond b (cond (is_gate_open c) (with_images (images_of (area_of c)) (block_of c) k) (block_of c k)) []) at_home
    ∙ ap (λ b. cond b (with_images (images_of (area_of c)) (block_of c) k) (block_of c k)) closed

not_home : (c : List ℕ) (k : ℕ) → is_home k ≡ false → home c k ≡ []
unfolding home
not_home c k away = ap (λ b. cond b (cond (is_gate_open c) (with_images (images_of (area_of c)) (block_of c) k) (block_of c k)) []) away

pub after_home : (images : List (ℕ × List ℕ)) (blocks : Blocks) (k : ℕ) → is_home k ≡ true → after_batch images blocks k ≡ with_images images blocks k
unfolding after_batch
after_home images blocks k at_home = ap (λ b. cond b (with_images images blocks k) []) at_home

after_not_home : (images : List (ℕ × List ℕ)) (blocks : Blocks) (k : ℕ) → is_home k ≡ false → after_batch images blocks k ≡ []
unfolding after_batch
after_not_home images blocks k away = ap (λ b. cond b (with_images images blocks k) []) away

-- equal at home is equal
home_at : (c d : List ℕ) → ((k : ℕ) → is_home k ≡ true → home c k ≡ home d k) → (k : ℕ) → home c k ≡ home d k
home_at c d each k = elim (cases_Bool (is_home k)) [ inl at_home ↦ each k at_home | inr away ↦ not_home c k away ∙ sym (not_home d k away) ]

home_by : (c d : List ℕ) → ((k : ℕ) → is_home k ≡ true → home c k ≡ home d k) → home c ≡ home d
home_by c d each = λ i k. home_at c d each k i

after_at : (images : List (ℕ × List ℕ)) (c d : List ℕ) → ((k : ℕ) → is_home k ≡ true → home c k ≡ with_images images (home d) k) → (k : ℕ) → home c k ≡ after_batch images (home d) k
after_at images c d each k =
    elim (cases_Bool (is_home k)) [
      | inl at_home ↦ each k at_home ∙ sym (after_home images (home d) k at_home)
      | inr away ↦ not_home c k away ∙ sym (after_not_home images (home d) k away)
    ]

after_by : (images : List (ℕ × List ℕ)) (c d : List ℕ) → ((k : ℕ) → is_home k ≡ true → home c k ≡ with_images images (home d) k) → home c ≡ after_batch images (home d)
after_by images c d each = λ i k. after_at images c d each k i

same_under : (o : Option (List ℕ)) (x y : List ℕ) → (o ≡ None → x ≡ y) → or_else o x ≡ or_else o y
same_under None x y same = same refl
same_under (Some z) x y same = refl

twice_under : (o : Option (List ℕ)) (x : List ℕ) → or_else o (or_else o x) ≡ or_else o x
twice_under None x = refl
twice_under (Some z) x = refl

gate_opens : (c d : List ℕ) (b : Bool) → gate_of c ≡ gate_of d → is_gate_open d ≡ b → is_gate_open c ≡ b
gate_opens c d b same is = subst (λ (g : List ℕ). (get_or g 0 0 == 165) ≡ b) (sym same) is

-- The heart: while the gate is open, blocks that an image is for may hold anything.
pub beside_home : (images : List (ℕ × List ℕ)) (d c : List ℕ) → is_gate_open d ≡ true → images_of (area_of d) ≡ images → Beside images d c → home c ≡ home d
beside_home images d c opened staged beside = home_by c d (λ k at_home.
    at_home_open images c k at_home (gate_opens c d true beside.gate opened) (ap images_of beside.area ∙ staged)
    ∙ same_under (image_for k images) (block_of c k) (block_of d k) (beside.blocks k at_home)
    ∙ sym (at_home_open images d k at_home opened staged))

away_from_journal : (at n k : ℕ) → 139264 ≤ at → at + n ≤ 1196032 → is_home k ≡ true → (4096 * k + 4096 ≤ at) ⊎ (at + n ≤ 4096 * k)
away_from_journal at n k low high at_home = elim (home_either k at_home) [ inl lt ↦ inl (omega (arith, lt, low)) | inr ge ↦ inr (omega (arith, ge, high)) ]

-- a torn write in the journal's own blocks
own_block : (at n : ℕ) (d c : List ℕ) → 139264 ≤ at → at + n ≤ 1196032 → Torn at n d c → (k : ℕ) → is_home k ≡ true → block_of c k ≡ block_of d k
own_block at n d c low high torn k at_home = slice_apart at n d c torn (4096 * k) 4096 (away_from_journal at n k low high at_home)

-- The gate is being closed, and all images are in their places.
pub closing_home : (images : List (ℕ × List ℕ)) (d e c : List ℕ) → is_gate_open d ≡ true → images_of (area_of d) ≡ images → IsPut images d e → Torn 139264 1 e c → home c ≡ home d
closing_home images d e c opened staged done torn = home_by c d (λ k at_home.
    let same : block_of c k ≡ with_images images (block_of d) k = own_block 139264 1 e c (omega arith) (omega arith) torn k at_home ∙ done.put k at_home in
    let before = sym (at_home_open images d k at_home opened staged) in
    let area : images_of (area_of c) ≡ images = ap images_of (slice_apart 139264 1 e c torn 143360 1052672 (inr (omega arith)) ∙ done.beside.area) ∙ staged in
    elim (cases_Bool (is_gate_open c)) [
      | inl is ↦ at_home_open images c k at_home is area ∙ ap (or_else (image_for k images)) same ∙ twice_under (image_for k images) (block_of d k) ∙ before
      | inr shut ↦ at_home_closed c k at_home shut ∙ same ∙ before
    ])

-- Head and images are being written behind a closed gate.
pub staging_closed : (n : ℕ) (d c : List ℕ) → 143360 + n ≤ 1196032 → is_gate_open d ≡ false → Torn 143360 n d c → is_gate_open c ≡ false
staging_closed n d c high closed torn = gate_opens c d false (slice_apart 143360 n d c torn 139264 1 (inl (omega arith))) closed

pub staging_home : (n : ℕ) (d c : List ℕ) → 143360 + n ≤ 1196032 → is_gate_open d ≡ false → Torn 143360 n d c → home c ≡ home d
staging_home n d c high closed torn = home_by c d (λ k at_home.
    at_home_closed c k at_home (staging_closed n d c high closed torn) ∙ own_block 143360 n d c (omega arith) high torn k at_home ∙ sym (at_home_closed d k at_home closed))

-- ---- the images of bytes are told by their front

pub number_front : (bytes rest : List ℕ) (p : ℕ) → 8 + 4 * p ≤ length bytes → target_at (bytes ++ rest) p ≡ target_at bytes p
unfolding target_at
number_front bytes rest p le =
    ap (little_number 4) (drop-append-le (4 + 4 * p) bytes rest (omega (arith, le))) ∙ little_from-append 4 (drop (4 + 4 * p) bytes) rest (omega (arith, le, length-drop (4 + 4 * p) bytes))

pub image_front : (bytes rest : List ℕ) (p : ℕ) → 4096 * p + 8192 ≤ length bytes → image_at (bytes ++ rest) p ≡ image_at bytes p
image_front bytes rest p le =
    ap (take 4096) (drop-append-le (4096 * p + 4096) bytes rest (omega (arith, le))) ∙ take-append-le 4096 (drop (4096 * p + 4096) bytes) rest (omega (arith, le, length-drop (4096 * p + 4096) bytes))

images_from_front : (bytes rest : List ℕ) (n p : ℕ) → 4096 * (p + n) + 4096 ≤ length bytes → p + n ≤ 1023 → images_from (bytes ++ rest) p n ≡ images_from bytes p n
images_from_front bytes rest zero p long few = refl
images_from_front bytes rest (suc n) p long few =
    λ i. (number_front bytes rest p (omega (arith, long, few)) i, image_front bytes rest p (omega (arith, long)) i) ∷ images_from_front bytes rest n (p + 1) (omega (arith, long)) (omega (arith, few)) i

pub count_front : (bytes rest : List ℕ) → 4 ≤ length bytes → image_count (bytes ++ rest) ≡ image_count bytes
unfolding image_count
count_front bytes rest le = little_from-append 4 bytes rest le

pub images_front : (bytes rest : List ℕ) → 4096 * image_count bytes + 4096 ≤ length bytes → image_count bytes ≤ 256 → images_of (bytes ++ rest) ≡ images_of bytes
images_front bytes rest long few =
    ap (images_from (bytes ++ rest) 0) (count_front bytes rest (omega (arith, long))) ∙ images_from_front bytes rest (image_count bytes) 0 (omega (arith, long)) (omega (arith, few))

rest_front : (bytes rest : List ℕ) → 4096 ≤ length bytes → image_count bytes ≤ 256 → rest_of_head (bytes ++ rest) ≡ rest_of_head bytes
rest_front bytes rest long few =
    let n = image_count bytes in
    (λ i. slice (4 + 4 * count_front bytes rest (omega (arith, long)) i) (4092 - 4 * count_front bytes rest (omega (arith, long)) i) (bytes ++ rest))
    ∙ ap (take (4092 - 4 * n)) (drop-append-le (4 + 4 * n) bytes rest (omega (arith, long, few)))
    ∙ take-append-le (4092 - 4 * n) (drop (4 + 4 * n) bytes) rest (omega (arith, long, few, length-drop (4 + 4 * n) bytes))

-- Bytes with a head and images in front have the same images, and the same rest of the head.
pub record Staged (bytes area : List ℕ) : Type 0 where
  pub images : images_of area ≡ images_of bytes
  pub rest : rest_of_head area ≡ rest_of_head bytes

pub staged_front : (area bytes : List ℕ) → take (length bytes) area ≡ bytes → 4096 * image_count bytes + 4096 ≤ length bytes → image_count bytes ≤ 256 → Staged bytes area
staged_front area bytes front long few =
    let is : area ≡ bytes ++ drop (length bytes) area = sym (take-append-drop (length bytes) area) ∙ ap (λ l. l ++ drop (length bytes) area) front in
    record {
      images = ap images_of is ∙ images_front bytes (drop (length bytes) area) long few;
      rest = ap rest_of_head is ∙ rest_front bytes (drop (length bytes) area) (omega (arith, long)) few;
    }

pub staged_written : (s bytes : List ℕ) → length bytes ≤ 1052672 → 143360 ≤ length s → 4096 * image_count bytes + 4096 ≤ length bytes → image_count bytes ≤ 256
    → Staged bytes (area_of (overwritten s 143360 bytes))
staged_written s bytes short le long few =
    let c = overwritten s 143360 bytes in
    staged_front (area_of c) bytes (take_shorter (length bytes) 1052672 (drop 143360 c) short ∙ slice_written s 143360 bytes (length bytes) refl le) long few

pub written_gate : (s : List ℕ) (byte : ℕ) → 139265 ≤ length s → gate_of (overwritten s 139264 (byte ∷ [])) ≡ byte ∷ []
written_gate s byte le = slice_written s 139264 (byte ∷ []) 1 refl (omega (arith, le))

-- no image
pub after_none : (images : List (ℕ × List ℕ)) (c : List ℕ) → length images ≡ 0 → home c ≡ after_batch images (home c)
after_none [] c none = after_by [] c c (λ k at_home. refl)
after_none (image ∷ images) c none = absurd (omega (arith, none))

-- ---- contents that are opened alike

pub same_journal : (d c : List ℕ) → home c ≡ home d → rest_of_gate c ≡ rest_of_gate d → length c ≡ length d → (is_gate_open c ≡ true → (is_gate_open d ≡ true) × (area_of c ≡ area_of d)) → SameJournal d c
same_journal d c blocks rest long head = record {
  blocks = blocks;
  journal = λ g j. record {
    size = long ∙ j.size;
    rest = ap are_zero rest ∙ j.rest;
    superblock = subst (λ (h : Blocks). Spells g (h 0)) (sym blocks) j.superblock;
    head = λ opened. let h = head opened in subst (λ (a : List ℕ). IsHead g a) (sym h.1) (j.head h.0);
  };
}

pub same_refl : (d c : List ℕ) → c ≡ d → SameJournal d c
same_refl d c is = record { blocks = ap home is; journal = λ g j. subst (λ (x : List ℕ). IsJournal g x) (sym is) j }

pub same_on : (d e c : List ℕ) → SameJournal d e → SameJournal e c → SameJournal d c
same_on d e c first second = record { blocks = second.blocks ∙ first.blocks; journal = λ g j. second.journal g (first.journal g j) }

pub after_on : (bytes seen e c : List ℕ) → IsAfter bytes seen e → SameJournal e c → IsAfter bytes seen c
after_on bytes seen e c first second = record { blocks = second.blocks ∙ first.blocks; journal = λ g j head keeps. second.journal g (first.journal g j head keeps) }

pub beside_alike : (images : List (ℕ × List ℕ)) (d c : List ℕ) → is_gate_open d ≡ true → images_of (area_of d) ≡ images → Beside images d c → SameJournal d c
beside_alike images d c opened staged beside = same_journal d c (beside_home images d c opened staged beside) beside.rest beside.same_length (λ o. (opened, beside.area))

pub closing_alike : (images : List (ℕ × List ℕ)) (d e c : List ℕ) → is_gate_open d ≡ true → images_of (area_of d) ≡ images → IsPut images d e → Torn 139264 1 e c → SameJournal d c
closing_alike images d e c opened staged done torn =
    same_journal d c (closing_home images d e c opened staged done torn)
    (slice_apart 139264 1 e c torn 139265 4095 (inr (omega arith)) ∙ done.beside.rest)
    (torn.same_length ∙ done.beside.same_length)
    (λ o. (opened, slice_apart 139264 1 e c torn 143360 1052672 (inr (omega arith)) ∙ done.beside.area))

pub staging_alike : (n : ℕ) (d c : List ℕ) → 143360 + n ≤ 1196032 → is_gate_open d ≡ false → Torn 143360 n d c → SameJournal d c
staging_alike n d c high closed torn =
    same_journal d c (staging_home n d c high closed torn) (slice_apart 143360 n d c torn 139265 4095 (inl (omega arith))) torn.same_length
    (λ o. absurd (false≢true (sym (staging_closed n d c high closed torn) ∙ o)))

-- the gate is written, and stays closed
shut_alike : (d c : List ℕ) → is_gate_open d ≡ false → Torn 139264 1 d c → is_gate_open c ≡ false → SameJournal d c
shut_alike d c closed torn shut =
    same_journal d c
    (home_by c d (λ k at_home. at_home_closed c k at_home shut ∙ own_block 139264 1 d c (omega arith) (omega arith) torn k at_home ∙ sym (at_home_closed d k at_home closed)))
    (slice_apart 139264 1 d c torn 139265 4095 (inr (omega arith))) torn.same_length (λ o. absurd (false≢true (sym shut ∙ o)))

pub head_alike : (g : Sizes) (a b : List ℕ) → Staged b a → IsHead g b → IsHead g a
head_alike g a b staged head =
    let count : image_count a ≡ image_count b = sym (length-images_of a) ∙ ap length staged.images ∙ length-images_of b in
    record {
      some = omega (arith, count, head.some);
      few = omega (arith, count, head.few);
      rising = subst (λ (is : List (ℕ × List ℕ)). RisesJournaled g 0 is) (sym staged.images) head.rising;
      rest = ap are_zero staged.rest ∙ head.rest;
    }

over_spells : (g : Sizes) (o : Option (List ℕ)) (x : List ℕ) → IfSome o (Spells g) → Spells g x → Spells g (or_else o x)
over_spells g None x keeps spells = spells
over_spells g (Some y) x keeps spells = keeps

-- the gate is open
pub opened_after : (bytes seen d c : List ℕ) → SameJournal seen d → is_gate_open d ≡ false → Staged bytes (area_of d) → Torn 139264 1 d c → is_gate_open c ≡ true → IsAfter bytes seen c × (images_of (area_of c) ≡ images_of bytes)
opened_after bytes seen d c same closed staged torn is =
    let images = images_of bytes in
    let kept : area_of c ≡ area_of d = slice_apart 139264 1 d c torn 143360 1052672 (inr (omega arith)) in
    let area : images_of (area_of c) ≡ images = ap images_of kept ∙ staged.images in
    let blocks : home c ≡ after_batch images (home seen) = after_by images c d (λ k at_home.
    at_home_open images c k at_home is area ∙ ap (or_else (image_for k images)) (own_block 139264 1 d c (omega arith) (omega arith) torn k at_home ∙ sym (at_home_closed d k at_home closed)))
    ∙ ap (after_batch images) same.blocks in
    let first : home c 0 ≡ or_else (image_for 0 images) (home seen 0) = ap (λ (h : Blocks). h 0) blocks ∙ after_home images (home seen) 0 refl in (
      record {
        blocks = blocks;
        journal = λ g j head keeps. record {
          size = torn.same_length ∙ (same.journal g j).size;
          rest = ap are_zero (slice_apart 139264 1 d c torn 139265 4095 (inr (omega arith))) ∙ (same.journal g j).rest;
          superblock = subst (λ (x : List ℕ). Spells g x) (sym first) (over_spells g (image_for 0 images) (home seen 0) keeps j.superblock);
          head = λ o. head_alike g (area_of c) bytes (record { images = area; rest = ap rest_of_head kept ∙ staged.rest }) head;
        };
      },
      area,
    )

-- the gate is being opened
pub opening_either : (bytes seen d c : List ℕ) → SameJournal seen d → is_gate_open d ≡ false → Staged bytes (area_of d) → Torn 139264 1 d c → SameJournal seen c ⊎ IsAfter bytes seen c
opening_either bytes seen d c same closed staged torn = elim (cases_Bool (is_gate_open c)) [
  | inl is ↦ inr (opened_after bytes seen d c same closed staged torn is).0
  | inr shut ↦ inl (same_on seen d c same (shut_alike d c closed torn shut))
]

-- ---- data written behind a closed gate

pub run_closed : (at n : ℕ) (d c : List ℕ) → 1196032 ≤ at → is_gate_open d ≡ false → Torn at n d c → is_gate_open c ≡ false
run_closed at n d c ge closed torn = gate_opens c d false (slice_apart at n d c torn 139264 1 (inl (omega (arith, ge)))) closed

apart_run : (first n k : ℕ) → (k < first) ⊎ (4096 * first + n ≤ 4096 * k) → (4096 * k + 4096 ≤ 4096 * first) ⊎ (4096 * first + n ≤ 4096 * k)
apart_run first n k (inl lt) = inl (omega (arith, lt))
apart_run first n k (inr ge) = inr ge

pub run_home : (first n : ℕ) (d c : List ℕ) → 292 ≤ first → is_gate_open d ≡ false → Torn (4096 * first) n d c → OutsideRun first n d c
run_home first n d c ge closed torn k apart = elim (cases_Bool (is_home k)) [
  | inl at_home ↦
      at_home_closed c k at_home (run_closed (4096 * first) n d c (omega (arith, ge)) closed torn) ∙ slice_apart (4096 * first) n d c torn (4096 * k) 4096 (apart_run first n k apart)
      ∙ sym (at_home_closed d k at_home closed)
  | inr away ↦ not_home c k away ∙ sym (not_home d k away)
]

pub run_journal : (g : Sizes) (first n : ℕ) (d c : List ℕ) → 292 ≤ first → is_gate_open d ≡ false → Torn (4096 * first) n d c → IsJournal g d → IsJournal g c
run_journal g first n d c ge closed torn j = record {
  size = torn.same_length ∙ j.size;
  rest = ap are_zero (slice_apart (4096 * first) n d c torn 139265 4095 (inl (omega (arith, ge)))) ∙ j.rest;
  superblock = subst (λ (x : List ℕ). Spells g x) (sym (run_home first n d c ge closed torn 0 (inl (omega (arith, ge))))) j.superblock;
  head = λ o. absurd (false≢true (sym (run_closed (4096 * first) n d c (omega (arith, ge)) closed torn) ∙ o));
}

-- what the home blocks are behind a closed gate
pub home_shut : (c : List ℕ) (k : ℕ) → is_home k ≡ true → is_gate_open c ≡ false → home c k ≡ block_of c k
home_shut c k at_home closed = at_home_closed c k at_home closed

pub home_over : (images : List (ℕ × List ℕ)) (c : List ℕ) (k : ℕ) → is_home k ≡ true → is_gate_open c ≡ true → images_of (area_of c) ≡ images → home c k ≡ with_images images (block_of c) k
home_over images c k at_home opened staged = at_home_open images c k at_home opened staged

-- a slice of a slice
pub slice_slice : (i n at l : ℕ) (c : List ℕ) → i + n ≤ l → slice i n (slice at l c) ≡ slice (at + i) n c
slice_slice i n at l c le =
    let moved : drop i (drop at c) ≡ drop (at + i) c = drop-drop i at c in
    let rest : l ≡ i + (l - i) = omega (arith, le) in
    ap (take n) (ap (λ k. drop i (take k (drop at c))) rest ∙ drop-take i (l - i) (drop at c))
    ∙ take_shorter n (l - i) (drop i (drop at c)) (omega (arith, le))
    ∙ ap (take n) moved

pub shows_home : (c bytes : List ℕ) (at n : ℕ) → is_gate_open c ≡ false → bytes ≡ slice at n c → length bytes ≡ n → ShowsHome at bytes c
shows_home c bytes at l closed is long k o n at_home inside low high =
    let p : ℕ = 4096 * k + o in
    let back : at + (p - at) ≡ p = omega (arith, low) in
    ap (slice (p - at) n) is
    ∙ slice_slice (p - at) n at l c (omega (arith, low, high, long))
    ∙ ap (λ j. slice j n c) back
    ∙ sym (ap (slice o n) (home_shut c k at_home closed) ∙ slice_slice o n (4096 * k) 4096 c inside)
