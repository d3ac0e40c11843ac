-- Images and the blocks that they are for.
use Rattle.std.proofs.Common.{◌≡◌, ◌≢◌, ◌⊎◌, inl, inr, ℕ, zero, suc, ◌+◌, ◌-◌, ◌*◌, ◌≤◌, ◌<◌, List, [], ◌∷◌, length, take, drop, refl, sym, ◌∙◌, ap, subst, arith, true, Some, None, cond, ◌==◌, ◌↔◌}
use Rattle.std.proofs.lemmas.List.{length-take-le, length-drop, take_rest}
use Rattle.std.proofs.lemmas.Bool.{cases_lt, cases_eq}
use Rattle.std.proofs.lemmas.Bool.Decides.{eqb_tells}
use Rattle.tier_device.specs.Media.{overwritten, Torn}
use Rattle.tier_device.specs.RecordLaws.{torn_overwritten, length-overwritten}
use Rattle.byteorder.specs.Endian.{little_number}
use Rattle.tier_device.specs.declared.media.Tier.TheVariants.{Fast}
use Rattle.layout.specs.Places.{Sizes, is_journaled, tier_blocks}
use Rattle.batch_journal.specs.Course.{Doing, IsPut, Beside}
use Rattle.batch_journal.specs.Images.{slice, image_count, target_at, image_at, images_from, images_of, image_for, or_else, with_images, Rises}
use Rattle.batch_journal.specs.Blocks.{Blocks, block_of, gate_of, area_of, is_home, Fit, RisesJournaled, AreJournaled, rest_of_gate}
use Rattle.batch_journal.proofs.Bytes.{slice_apart, slice_written}

pub home_either : (t : ℕ) → is_home t ≡ true → (t < 34) ⊎ (292 ≤ t)
home_either t is = grind arith

pub some_none : {A : Type 0} (x : A) → Some x ≡ None → ⊥
some_none x e = cc

pub found : (bytes : List ℕ) (n q p : ℕ) → q ≤ p → p < q + n → image_for (target_at bytes p) (images_from bytes q n) ≡ None → ⊥
found bytes zero q p low high none = omega (arith, low, high)
found bytes (suc n) q p low high none =
    elim (eqb_tells (target_at bytes p) (target_at bytes q)) [
      | inl same ↦ some_none (image_at bytes q) (sym (ap (λ b. cond b (Some (image_at bytes q)) (image_for (target_at bytes p) (images_from bytes (q + 1) n))) same.0) ∙ none)
      | inr off ↦
          elim (cases_eq p q) [
            | inl at_q ↦ absurd (off.1 (ap (target_at bytes) at_q))
            | inr apart ↦ found bytes n (q + 1) p (omega (arith, low, apart)) (omega (arith, high)) (sym (ap (λ b. cond b (Some (image_at bytes q)) (image_for (target_at bytes p) (images_from bytes (q + 1) n))) off.0) ∙ none)
          ]
    ]

-- one image more is in its place, and no later one is for the same block
pub one_more : (number : ℕ) (image : List ℕ) (rest : List (ℕ × List ℕ)) (old new : Blocks) → image_for number rest ≡ None → new number ≡ image → (k : ℕ) → (k ≢ number → new k ≡ old k)
    → with_images rest new k ≡ with_images ((number, image) ∷ rest) old k
one_more number image rest old new once is k others =
    elim (eqb_tells k number) [
      | inl same ↦
          ap (λ o. or_else o (new k)) (ap (λ j. image_for j rest) same.1 ∙ once) ∙ ap new same.1 ∙ is
          ∙ sym (ap (λ b. or_else (cond b (Some image) (image_for k rest)) (old k)) same.0)
      | inr off ↦ ap (λ x. or_else (image_for k rest) x) (others off.1) ∙ sym (ap (λ b. or_else (cond b (Some image) (image_for k rest)) (old k)) off.0)
    ]

apart_block : (t k : ℕ) → k ≢ t → (4096 * k + 4096 ≤ 4096 * t) ⊎ (4096 * t + 4096 ≤ 4096 * k)
apart_block t k other = elim (cases_lt k t) [ inl lt ↦ inl (omega (arith, lt)) | inr ge ↦ inr (omega (arith, ge, other)) ]

pub block_kept : (t : ℕ) (d c : List ℕ) → Torn (4096 * t) 4096 d c → (k : ℕ) → k ≢ t → block_of c k ≡ block_of d k
block_kept t d c torn k other = slice_apart (4096 * t) 4096 d c torn (4096 * k) 4096 (apart_block t k other)

gate_kept : (t : ℕ) (d c : List ℕ) → is_home t ≡ true → Torn (4096 * t) 4096 d c → gate_of c ≡ gate_of d
gate_kept t d c is torn = slice_apart (4096 * t) 4096 d c torn 139264 1 (elim (home_either t is) [ inl lt ↦ inr (omega (arith, lt)) | inr ge ↦ inl (omega (arith, ge)) ])

rest_kept : (t : ℕ) (d c : List ℕ) → is_home t ≡ true → Torn (4096 * t) 4096 d c → rest_of_gate c ≡ rest_of_gate d
rest_kept t d c is torn = slice_apart (4096 * t) 4096 d c torn 139265 4095 (elim (home_either t is) [ inl lt ↦ inr (omega (arith, lt)) | inr ge ↦ inl (omega (arith, ge)) ])

area_kept : (t : ℕ) (d c : List ℕ) → is_home t ≡ true → Torn (4096 * t) 4096 d c → area_of c ≡ area_of d
area_kept t d c is torn = slice_apart (4096 * t) 4096 d c torn 143360 1052672 (elim (home_either t is) [ inl lt ↦ inr (omega (arith, lt)) | inr ge ↦ inl (omega (arith, ge)) ])

-- A torn write of a block that the images are for.
pub torn_beside : (images : List (ℕ × List ℕ)) (t : ℕ) (d c : List ℕ) → is_home t ≡ true → (image_for t images ≡ None → ⊥) → Torn (4096 * t) 4096 d c → Beside images d c
torn_beside images t d c is named torn = record {
  gate = gate_kept t d c is torn;
  rest = rest_kept t d c is torn;
  area = area_kept t d c is torn;
  blocks = λ k at_home none. block_kept t d c torn k (λ same. named (sym (ap (λ j. image_for j images) same) ∙ none));
  same_length = torn.same_length;
}

pub beside_same : (images : List (ℕ × List ℕ)) (d : List ℕ) → Beside images d d
beside_same images d = record { gate = refl; rest = refl; area = refl; blocks = λ k at_home none. refl; same_length = refl }

pub beside_on : (images : List (ℕ × List ℕ)) (d e c : List ℕ) → Beside images d e → Beside images e c → Beside images d c
beside_on images d e c first second = record {
  gate = second.gate ∙ first.gate;
  rest = second.rest ∙ first.rest;
  area = second.area ∙ first.area;
  blocks = λ k at_home none. second.blocks k at_home none ∙ first.blocks k at_home none;
  same_length = second.same_length ∙ first.same_length;
}

-- ---- one more image is written

pub doing_first : (bytes first : List ℕ) (n : ℕ) → n ≡ image_count bytes → Fit (length first) (images_of bytes) → Doing bytes 0 (n - 0) first first
doing_first bytes first n count fit =
    let whole : image_count bytes ≡ n - 0 = omega (arith, count) in
    subst (λ k. Doing bytes 0 k first first) whole (record { beside = beside_same (images_of bytes) first; to_do = λ k at_home. refl; fit = fit })

doing_suc : (bytes first seen : List ℕ) (p n : ℕ) → p < n → Doing bytes p (n - p) first seen → Doing bytes p (suc (n - (p + 1))) first seen
doing_suc bytes first seen p n lt doing = subst (λ m. Doing bytes p m first seen) (omega (arith, lt)) doing

pub doing_fits : (bytes first seen : List ℕ) (p n : ℕ) → p < n → Doing bytes p (n - p) first seen → (is_home (target_at bytes p) ≡ true) × (4096 * target_at bytes p + 4096 ≤ length seen)
doing_fits bytes first seen p n lt doing =
    let fit = (doing_suc bytes first seen p n lt doing).fit in (fit.0, fit.1)

pub doing_more : (bytes first seen new : List ℕ) (p n : ℕ) → p < n → n ≡ image_count bytes → 4096 * n + 4096 ≤ length bytes → Doing bytes p (n - p) first seen
    → new ≡ overwritten seen (4096 * target_at bytes p) (image_at bytes p) → Doing bytes (p + 1) (n - (p + 1)) first new
doing_more bytes first seen new p n lt count long before is =
    let doing = doing_suc bytes first seen p n lt before in
    let t = target_at bytes p in
    let image = image_at bytes p in
    let rest = images_from bytes (p + 1) (n - (p + 1)) in
    let size : length image ≡ 4096 = length-take-le 4096 (drop (4096 * p + 4096) bytes) (omega (arith, lt, long, length-drop (4096 * p + 4096) bytes)) in
    let le : 4096 * t + length image ≤ length seen = omega (arith, size, doing.fit.1) in
    let kept : length new ≡ length seen = ap length is ∙ length-overwritten seen (4096 * t) image le in
    let torn : Torn (4096 * t) 4096 seen new =
    subst (λ (x : List ℕ). Torn (4096 * t) 4096 seen x) (sym is) (subst (λ m. Torn (4096 * t) m seen (overwritten seen (4096 * t) image)) size (torn_overwritten seen (4096 * t) image le)) in
    let named : image_for t (images_of bytes) ≡ None → ⊥ = found bytes (image_count bytes) 0 p (omega arith) (omega (arith, lt, count)) in
    let here : block_of new t ≡ image = ap (slice (4096 * t) 4096) is ∙ slice_written seen (4096 * t) image 4096 (sym size) (omega (arith, le)) in
    record {
      beside = beside_on (images_of bytes) first seen new doing.beside (torn_beside (images_of bytes) t seen new doing.fit.0 named torn);
      to_do = λ k at_home. one_more t image rest (block_of seen) (block_of new) doing.fit.2 here k (λ other. block_kept t seen new torn k other) ∙ doing.to_do k at_home;
      fit = subst (λ m. Fit m rest) (sym kept) doing.fit.3;
    }

pub doing_done : (bytes first seen : List ℕ) (p n : ℕ) → n ≤ p → Doing bytes p (n - p) first seen → IsPut (images_of bytes) first seen
doing_done bytes first seen p n ge before =
    let doing : Doing bytes p 0 first seen = subst (λ m. Doing bytes p m first seen) (omega (arith, ge)) before in
    record { beside = doing.beside; put = λ k at_home. doing.to_do k at_home }

pub number_is : (bytes : List ℕ) (p x : ℕ) → x ≡ little_number 4 (take (length bytes - (4 + 4 * p)) (drop (4 + 4 * p) bytes)) → x ≡ target_at bytes p
unfolding target_at
number_is bytes p x is = is ∙ ap (little_number 4) (take_rest bytes (4 + 4 * p))

pub write_is : (seen bytes : List ℕ) (p x : ℕ) → x ≡ target_at bytes p
    → overwritten seen (4096 * x) (take (4096 * p + 4096 + 4096 - (4096 * p + 4096)) (drop (4096 * p + 4096) bytes)) ≡ overwritten seen (4096 * target_at bytes p) (image_at bytes p)
write_is seen bytes p x is =
    let size : 4096 * p + 4096 + 4096 - (4096 * p + 4096) ≡ 4096 = omega arith in
    λ i. overwritten seen (4096 * is i) (take (size i) (drop (4096 * p + 4096) bytes))

length-images_from : (bytes : List ℕ) (p n : ℕ) → length (images_from bytes p n) ≡ n
length-images_from bytes p zero = refl
length-images_from bytes p (suc n) = ap suc (length-images_from bytes (p + 1) n)

pub length-images_of : (bytes : List ℕ) → length (images_of bytes) ≡ image_count bytes
length-images_of bytes = length-images_from bytes 0 (image_count bytes)

-- ---- numbers that rise

pub none_below : (low k : ℕ) (images : List (ℕ × List ℕ)) → Rises low images → k < low → image_for k images ≡ None
none_below low k [] rises lt = refl
none_below low k (image ∷ images) rises lt =
    elim (eqb_tells k image.0) [
      | inl same ↦ absurd (omega (arith, same.1, lt, rises.0))
      | inr off ↦ ap (λ b. cond b (Some image.1) (image_for k images)) off.0 ∙ none_below (image.0 + 1) k images rises.1 (omega (arith, lt, rises.0))
    ]

pub journaled_home : (g : Sizes) (k : ℕ) → is_journaled g k ≡ true → is_home k ≡ true
journaled_home g k is = grind arith

pub journaled_inside : (g : Sizes) (k : ℕ) → is_journaled g k ≡ true → 4096 * k + 4096 ≤ 4096 * tier_blocks g Fast
journaled_inside g k is = grind arith

pub rising_rises : (g : Sizes) (low : ℕ) (images : List (ℕ × List ℕ)) → RisesJournaled g low images → Rises low images
rising_rises g low [] rising = rising
rising_rises g low (image ∷ images) rising = (rising.0, rising_rises g (image.0 + 1) images rising.2)

pub rises_rising : (g : Sizes) (low : ℕ) (images : List (ℕ × List ℕ)) → Rises low images → AreJournaled g images → RisesJournaled g low images
rises_rising g low [] rises are = rises
rises_rising g low (image ∷ images) rises are = (rises.0, are.0, rises_rising g (image.0 + 1) images rises.1 are.1)

pub rising_journaled : (g : Sizes) (low : ℕ) (images : List (ℕ × List ℕ)) → RisesJournaled g low images → AreJournaled g images
rising_journaled g low [] rising = rising
rising_journaled g low (image ∷ images) rising = (rising.1, rising_journaled g (image.0 + 1) images rising.2)

pub rising_fit : (g : Sizes) (size low : ℕ) (images : List (ℕ × List ℕ)) → 4096 * tier_blocks g Fast ≤ size → RisesJournaled g low images → Fit size images
rising_fit g size low [] le rising = rising
rising_fit g size low (image ∷ images) le rising =
    let inside = journaled_inside g image.0 rising.1 in
    (journaled_home g image.0 rising.1, omega (arith, le, inside), none_below (image.0 + 1) image.0 images (rising_rises g (image.0 + 1) images rising.2) (omega arith), rising_fit g size (image.0 + 1) images le rising.2)

abbrev MayFollow : Sizes → ℕ → ℕ → Type 0
MayFollow g low x = (low ≤ x) × (is_journaled g x ≡ true)

module _ (bytes : List ℕ) (g : Sizes) (low p n x : ℕ) (lt : p < n) (is : x ≡ target_at bytes p) (Whole : Type 0) (same : RisesJournaled g low (images_from bytes p (n - p)) ↔ Whole) where
  split : n - p ≡ suc (n - (p + 1))
  split = omega (arith, lt)

  parts : Whole → RisesJournaled g low ((target_at bytes p, image_at bytes p) ∷ images_from bytes (p + 1) (n - (p + 1)))
  parts w = subst (λ m. RisesJournaled g low (images_from bytes p m)) split (same.1 w)

  pub rising_stops : (MayFollow g low x → ⊥) → Whole → ⊥
  rising_stops none w = let r = subst (λ y. MayFollow g low y) (sym is) ((parts w).0, (parts w).1) in none r

  pub rising_goes : MayFollow g low x → (RisesJournaled g (x + 1) (images_from bytes (p + 1) (n - (p + 1))) → Whole) × (Whole → RisesJournaled g (x + 1) (images_from bytes (p + 1) (n - (p + 1))))
  rising_goes has =
      let rest = images_from bytes (p + 1) (n - (p + 1)) in
      let has' : MayFollow g low (target_at bytes p) = subst (λ y. MayFollow g low y) is has in (
        λ r. same.0 (subst (λ m. RisesJournaled g low (images_from bytes p m)) (sym split) (has'.0, has'.1, subst (λ y. RisesJournaled g (y + 1) rest) is r)),
        λ w. subst (λ y. RisesJournaled g (y + 1) rest) (sym is) (parts w).2,
      )

pub is_home_by : (t : ℕ) → (t < 34) ⊎ (292 ≤ t) → is_home t ≡ true
is_home_by t either = grind arith

-- ---- the image for block 0

pub first_for_0 : (bytes : List ℕ) (n : ℕ) → 1 ≤ n → target_at bytes 0 ≡ 0 → image_for 0 (images_from bytes 0 n) ≡ Some (image_at bytes 0)
first_for_0 bytes zero some is = absurd (omega (arith, some))
first_for_0 bytes (suc n) some is = ap (λ t. cond (0 == t) (Some (image_at bytes 0)) (image_for 0 (images_from bytes 1 n))) is

pub none_for_0 : (bytes : List ℕ) (n : ℕ) → Rises 0 (images_from bytes 0 n) → (n ≡ 0) ⊎ (target_at bytes 0 ≢ 0) → image_for 0 (images_from bytes 0 n) ≡ None
none_for_0 bytes zero rises either = refl
none_for_0 bytes (suc n) rises (inl is) = absurd (omega (arith, is))
none_for_0 bytes (suc n) rises (inr away) = elim (eqb_tells 0 (target_at bytes 0)) [
  | inl same ↦ absurd (away (sym same.1))
  | inr off ↦ ap (λ b. cond b (Some (image_at bytes 0)) (image_for 0 (images_from bytes 1 n))) off.0 ∙ none_below (target_at bytes 0 + 1) 0 (images_from bytes 1 n) rises.1 (omega arith)
]
