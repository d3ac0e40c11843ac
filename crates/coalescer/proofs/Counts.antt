-- What is counted, and that a list has as much of it as its front, at least.
use Rattle.std.proofs.Common.{◌≡◌, inl, inr, ℕ, ◌+◌, ◌-◌, ◌*◌, ◌^◌, ◌<◌, ◌≤◌, ◌==◌, cond, Bool, true, false, List, [], ◌∷◌, ◌++◌, length, refl, ap, sym, ◌∙◌, subst, arith}
use Rattle.std.specs.Prelude.{◌||◌, ◌&&◌, nat_eq, nat_le, min}
use Rattle.std.specs.Cmp.{IsEquivalence, nat_eq_equiv, unsigned_tied, tied_then}
use Rattle.std.specs.Ordering.{nat_cmp, eq_by_cmp, is_eq}
use Rattle.std.specs.BTreeSet.{BTreeSet, contains, IsOrdered}
use Rattle.std.specs.List.{list_any, IsDistinct, AllByRecursion, flat_map, sum_by}
use Rattle.std.specs.Set.{distinct_count, unique_keys, is_member}
use Rattle.std.proofs.lemmas.Map.Keys.{IsDistinct-cons, IsDistinct-from_sorted}
use Rattle.std.proofs.lemmas.Map.Made.{length-le_from_is_member, length-from_keys, distinct_count-le}
use Rattle.std.proofs.lemmas.List.Sums.{sum_by-append}
use Rattle.std.proofs.lemmas.List.Concat.{flat_map-append}
use Rattle.std.proofs.lemmas.Bool.{false≢true}
use Rattle.std.proofs.lemmas.Bool.Decides.{nat_tests}
use Rattle.graph_change.specs.file_graph.declared.effect.Effect.{Effect}
use Rattle.graph_change.specs.file_graph.Graph.{subjects, touches}
use Rattle.graph_change.proofs.Blocks.{either}
use Rattle.coalescer.specs.declared.estimate.Estimate.{Estimate}
use Rattle.coalescer.specs.declared.weight.Weight.{Weight}
use Rattle.coalescer.specs.declared.weight.TheConstants.{CHUNK_IMAGES, CHUNK_BLOCKS}
use Rattle.coalescer.specs.Weight.{entry_weight, file_blocks, same_block, images, blocks, fits_chunk}
use Rattle.coalescer.specs.EffectCounts.{Weighs, IsEstimate, block_cmp}

member_congr : {K : Type 0} {eq : K → K → Bool} → IsEquivalence eq → (xs : List K) (q x : K) → eq q x ≡ true → is_member eq xs q ≡ is_member eq xs x
member_congr laws [] q x h = refl
member_congr {eq = eq} laws (y ∷ ys) q x h = ap (λ b. b || is_member eq ys q) (laws.congr q x y h) ∙ ap (λ b. eq x y || b) (member_congr laws ys q x h)

pub member_unique : {K : Type 0} {eq : K → K → Bool} → IsEquivalence eq → (xs : List K) (q : K) → is_member eq (unique_keys eq xs) q ≡ is_member eq xs q
member_unique laws [] q = refl
member_unique {eq = eq} laws (x ∷ xs) q =
    elim (either (is_member eq xs x)) [
      | inl t ↦
          ap (λ b. is_member eq (cond b (unique_keys eq xs) (x ∷ unique_keys eq xs)) q) t ∙ member_unique laws xs q
          ∙ elim (either (eq q x)) [
            | inl same ↦ member_congr laws xs q x same ∙ t ∙ sym (ap (λ b. b || is_member eq xs q) same)
            | inr other ↦ sym (ap (λ b. b || is_member eq xs q) other)
          ]
      | inr f ↦ ap (λ b. is_member eq (cond b (unique_keys eq xs) (x ∷ unique_keys eq xs)) q) f ∙ ap (λ b. eq q x || b) (member_unique laws xs q)
    ]

none_in : {K : Type 0} (eq : K → K → Bool) (x : K) (zs : List K) → list_any (eq x) zs ≡ false → AllByRecursion (λ y. eq x y ≡ false) zs
none_in eq x [] h = tt
none_in eq x (z ∷ zs) h =
    elim (either (eq x z)) [
      | inl t ↦ absurd (false≢true (sym h ∙ ap (λ b. b || list_any (eq x) zs) t))
      | inr f ↦ (f, none_in eq x zs (sym (ap (λ b. b || list_any (eq x) zs) f) ∙ h))
    ]

pub empty_distinct : {K : Type 0} (eq : K → K → Bool) → IsDistinct eq []
unfolding IsDistinct
empty_distinct eq = tt

distinct_unique : {K : Type 0} {eq : K → K → Bool} → IsEquivalence eq → (xs : List K) → IsDistinct eq (unique_keys eq xs)
distinct_unique laws [] = empty_distinct _
distinct_unique {eq = eq} laws (x ∷ xs) =
    elim (either (is_member eq xs x)) [
      | inl t ↦ subst (λ b. IsDistinct eq (cond b (unique_keys eq xs) (x ∷ unique_keys eq xs))) (sym t) (distinct_unique laws xs)
      | inr f ↦ subst (λ b. IsDistinct eq (cond b (unique_keys eq xs) (x ∷ unique_keys eq xs))) (sym f)
          (IsDistinct-cons eq x (unique_keys eq xs) (none_in eq x (unique_keys eq xs) (member_unique laws xs x ∙ f)) (distinct_unique laws xs))
    ]

member_front : {K : Type 0} (eq : K → K → Bool) (xs ys : List K) (q : K) → is_member eq xs q ≡ true → is_member eq (xs ++ ys) q ≡ true
member_front eq [] ys q h = absurd (false≢true h)
member_front eq (x ∷ xs) ys q h =
    elim (either (eq q x)) [
      | inl t ↦ ap (λ b. b || is_member eq (xs ++ ys) q) t
      | inr f ↦ ap (λ b. b || is_member eq (xs ++ ys) q) f ∙ member_front eq xs ys q (sym (ap (λ b. b || is_member eq xs q) f) ∙ h)
    ]

count_front : {K : Type 0} {eq : K → K → Bool} → IsEquivalence eq → (xs ys : List K) → distinct_count eq xs ≤ distinct_count eq (xs ++ ys)
count_front {eq = eq} laws xs ys =
    length-le_from_is_member laws (unique_keys eq xs) (unique_keys eq (xs ++ ys)) (distinct_unique laws xs)
    (λ q t. member_unique laws (xs ++ ys) q ∙ member_front eq xs ys q (sym (member_unique laws xs q) ∙ t))

-- ---- blocks of inodes

pub and_true : (a b : Bool) → (a && b) ≡ true → (a ≡ true) × (b ≡ true)
and_true true b h = (refl, h)
and_true false b h = absurd (false≢true h)

pub block_laws : IsEquivalence same_block
block_laws = record {
  refl = λ a. ap (λ b. b && (a.1 == a.1)) (nat_eq_equiv.refl a.0) ∙ nat_eq_equiv.refl a.1;
  symm = λ a b. ap (λ t. t && (a.1 == b.1)) (nat_eq_equiv.symm a.0 b.0) ∙ ap (λ t. (b.0 == a.0) && t) (nat_eq_equiv.symm a.1 b.1);
  congr = λ a b c h.
      let both = and_true (a.0 == b.0) (a.1 == b.1) h in
      ap (λ t. t && (a.1 == c.1)) (nat_eq_equiv.congr a.0 b.0 c.0 both.0) ∙ ap (λ t. (b.0 == c.0) && t) (nat_eq_equiv.congr a.1 b.1 c.1 both.1);
}

-- ---- a list and its front

images_front : (xs ys : List Effect) → images xs ≤ images (xs ++ ys)
images_front xs ys =
    let inodes = count_front nat_eq_equiv (touches xs) (touches ys) in
    let joined = ap (distinct_count nat_eq) (flat_map-append subjects xs ys) in
    let entries = sum_by-append entry_weight xs ys in
    omega (arith, inodes, joined, entries)

blocks_front : (xs ys : List Effect) → blocks xs ≤ blocks (xs ++ ys)
blocks_front xs ys =
    let all = count_front block_laws (flat_map file_blocks xs) (flat_map file_blocks ys) in
    let joined = ap (distinct_count same_block) (flat_map-append file_blocks xs ys) in
    omega (arith, all, joined)

both_less : (a b c d m n : ℕ) → a ≤ b → c ≤ d → (nat_le b m && nat_le d n) ≡ true → (nat_le a m && nat_le c n) ≡ true
both_less a b c d m n h k t = grind (arith, nat_tests)

fits_less : (xs ys : List Effect) → fits_chunk (xs ++ ys) ≡ true → fits_chunk xs ≡ true
unfolding fits_chunk
fits_less xs ys h = both_less (images xs) (images (xs ++ ys)) (blocks xs) (blocks (xs ++ ys)) CHUNK_IMAGES CHUNK_BLOCKS (images_front xs ys) (blocks_front xs ys) h

-- what does not fit does not with more behind it
pub never : (xs ys : List Effect) → fits_chunk xs ≡ false → fits_chunk (xs ++ ys) ≡ false
never xs ys h =
    elim (either (fits_chunk (xs ++ ys))) [
      | inl t ↦ absurd (false≢true (sym h ∙ fits_less xs ys t))
      | inr f ↦ f
    ]

-- ---- what is counted

block_eq : (a b : ℕ × ℕ) → eq_by_cmp block_cmp a b ≡ same_block a b
block_eq a b =
    sym (tied_then (nat_cmp a.0 b.0) (nat_cmp a.1 b.1))
    ∙ ap (λ t. t && is_eq (nat_cmp a.1 b.1)) (unsigned_tied a.0 b.0)
    ∙ ap (λ t. a.0 == b.0 && t) (unsigned_tied a.1 b.1)

pub same_any : {K : Type 0} (f g : K → Bool) → ((x : K) → f x ≡ g x) → (xs : List K) → list_any f xs ≡ list_any g xs
same_any f g same [] = refl
same_any f g same (x ∷ xs) = ap (λ b. b || list_any f xs) (same x) ∙ ap (λ b. g x || b) (same_any f g same xs)

-- a set has as many keys as there are different elements
set_count : {K : Type 0} (cmp : _) (eq : K → K → Bool) → IsEquivalence eq → ((a b : K) → eq_by_cmp cmp a b ≡ eq a b) → (s : BTreeSet K) (xs : List K) → IsOrdered cmp s → ((q : K) → contains cmp s q ≡ is_member eq xs q) → length s.keys ≡ distinct_count eq xs
set_count cmp eq laws tied s xs ordered has =
    let same : eq_by_cmp cmp ≡ eq = λ t a b. tied a b t in
    length-from_keys laws s.keys xs (subst (λ e. IsDistinct e s.keys) same (IsDistinct-from_sorted cmp s.keys ordered))
    (λ q. sym (same_any (λ x. eq_by_cmp cmp q x) (eq q) (tied q) s.keys) ∙ has q)

few : (i e b c most m : ℕ) → e ≡ min c most → (nat_le (4 * i + e + 1) most && nat_le b m) ≡ (nat_le (4 * i + c + 1) most && nat_le b m)
few i e b c most m is = grind (arith, nat_tests)

pub counted_fits : (es : List Effect) (w : Weight) (is_few : Bool) → Weighs es w → IsOrdered nat_cmp w.inodes → IsOrdered block_cmp w.blocks
    → is_few ≡ (nat_le (4 * length w.inodes.keys + w.entries + 1) CHUNK_IMAGES && nat_le (length w.blocks.keys) CHUNK_BLOCKS) → is_few ≡ fits_chunk es
unfolding fits_chunk
counted_fits es w is_few is inodes all answer =
    answer
    ∙ few (length w.inodes.keys) w.entries (length w.blocks.keys) (sum_by entry_weight es) CHUNK_IMAGES CHUNK_BLOCKS is.entries
    ∙ ap (λ n. nat_le (4 * n + sum_by entry_weight es + 1) CHUNK_IMAGES && nat_le (length w.blocks.keys) CHUNK_BLOCKS) (set_count nat_cmp nat_eq nat_eq_equiv unsigned_tied w.inodes (touches es) inodes is.inodes)
    ∙ ap (λ n. nat_le (images es) CHUNK_IMAGES && nat_le n CHUNK_BLOCKS) (set_count block_cmp same_block block_laws block_eq w.blocks (flat_map file_blocks es) all is.blocks)

-- ---- what is counted at most

surely : (i j e b c n d most m large : ℕ) → i ≡ j → e ≡ min c most → b ≡ min n large → d ≤ n → m < large → (nat_le (4 * i + e + 1) most && nat_le b m) ≡ true → (nat_le (4 * j + c + 1) most && nat_le d m) ≡ true
surely i j e b c n d most m large same entries blocks once few h = grind (arith, nat_tests)

pub estimate_fits : (es : List Effect) (w : Estimate) (is_few : Bool) → IsEstimate es w → IsOrdered nat_cmp w.inodes
    → is_few ≡ (nat_le (4 * length w.inodes.keys + w.entries + 1) CHUNK_IMAGES && nat_le w.blocks CHUNK_BLOCKS) → is_few ≡ true → fits_chunk es ≡ true
unfolding fits_chunk
estimate_fits es w is_few is inodes answer told =
    surely (length w.inodes.keys) (distinct_count nat_eq (touches es)) w.entries w.blocks (sum_by entry_weight es) (length (flat_map file_blocks es)) (blocks es) CHUNK_IMAGES CHUNK_BLOCKS (2 ^ 64 - 1)
    (set_count nat_cmp nat_eq nat_eq_equiv unsigned_tied w.inodes (touches es) inodes is.inodes)
    is.entries is.blocks (distinct_count-le same_block (flat_map file_blocks es)) (omega arith) (sym answer ∙ told)
