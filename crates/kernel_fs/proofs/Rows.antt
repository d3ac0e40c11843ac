-- Bits of rows, and the inodes that they are for.
use Rattle.std.proofs.Common.{◌≡◌, ◌≢◌, ◌⊎◌, inl, inr, ℕ, ◌+◌, ◌-◌, ◌*◌, ◌/◌, ◌%◌, ◌^◌, ◌<◌, ◌≤◌, List, length, get_or, set, Bool, true, false, ◌&&◌, ◌||◌, not, cond, nat_eq, ap, sym, ◌∙◌, subst, arith, bit_and, bit_or, w64, min, max}
use Rattle.std.specs.Int.{bit_at, bit_not, trailing_zeros}
use Rattle.std.specs.Int.Bits.{and_lt}
use Rattle.std.proofs.lemmas.Bool.{false≢true, eqb-true}
use Rattle.std.proofs.lemmas.Bool.Decides.{eqb_tells, nat_tests}
use Rattle.std.proofs.lemmas.List.{get_or-set_same, get_or-set_other}
use Rattle.std.proofs.lemmas.Nat.Bits.{bit_at_set_same, bit_at_set_other, bit_at_clear_same, bit_at_clear_other, bit_at-lt, bit_at-zero, bit_at_and, bit_at_or, bit_at_not, bit_at_ones, bit_at-trailing_zeros}
use Rattle.world_invariant.specs.LeaseSteps.{also, without}
use Rattle.kernel_fs.specs.Inodes.{IsInode, is_inode, has}

-- ---- numbers

pub inside : (i : ℕ) → IsInode i → is_inode i ≡ true
inside i is = grind (arith, nat_tests)

pub outside : (i : ℕ) → (IsInode i → ⊥) → is_inode i ≡ false
outside i is = grind (arith, nat_tests)

pub inode_tells : (i : ℕ) → IsInode i ⊎ (is_inode i ≡ false)
inode_tells i = grind (arith, nat_tests)

pub inode_is : (i : ℕ) → is_inode i ≡ true → IsInode i
inode_is i e = grind (arith, nat_tests)

pub row_within : (i : ℕ) → IsInode i → (i - 1) / 64 < 16
row_within i is = omega arith

pub bit_within : (i : ℕ) → (i - 1) % 64 < 64
bit_within i = omega arith

-- an inode by its row and bit
pub one_place : (i j : ℕ) → IsInode i → IsInode j → (i - 1) / 64 ≡ (j - 1) / 64 → (i - 1) % 64 ≡ (j - 1) % 64 → i ≡ j
one_place i j is js row bit = omega arith

pub row_of : (r b : ℕ) → b < 64 → (r * 64 + b + 1 - 1) / 64 ≡ r
row_of r b low = omega arith

pub bit_of : (r b : ℕ) → b < 64 → (r * 64 + b + 1 - 1) % 64 ≡ b
bit_of r b low = omega arith

-- ---- bits

pub has_at : (rows : List ℕ) (i : ℕ) → IsInode i → has rows i ≡ nat_eq (bit_at (get_or rows ((i - 1) / 64) 0) ((i - 1) % 64)) 1
unfolding has
has_at rows i is = ap (λ b. b && nat_eq (bit_at (get_or rows ((i - 1) / 64) 0) ((i - 1) % 64)) 1) (inside i is)

pub has_none : (rows : List ℕ) (i : ℕ) → is_inode i ≡ false → has rows i ≡ false
unfolding has
has_none rows i out = ap (λ b. b && nat_eq (bit_at (get_or rows ((i - 1) / 64) 0) ((i - 1) % 64)) 1) out

pub has_bit : (rows : List ℕ) (r b : ℕ) → r < 16 → b < 64 → has rows (r * 64 + b + 1) ≡ nat_eq (bit_at (get_or rows r 0) b) 1
has_bit rows r b row low =
    let is : IsInode (r * 64 + b + 1) = (omega (arith, row, low), omega (arith, row, low)) in
    has_at rows (r * 64 + b + 1) is
    ∙ ap (λ k. nat_eq (bit_at (get_or rows k 0) ((r * 64 + b + 1 - 1) % 64)) 1) (row_of r b low)
    ∙ ap (λ k. nat_eq (bit_at (get_or rows r 0) k) 1) (bit_of r b low)

-- what is so of all bits is so of all inodes
pub by_bits : (P : ℕ → Type 0) → ((i : ℕ) → is_inode i ≡ false → P i) → ((r b : ℕ) → r < 16 → b < 64 → P (r * 64 + b + 1)) → (i : ℕ) → P i
by_bits P out at i =
    elim (inode_tells i) [
      | inl is ↦
          let back : (i - 1) / 64 * 64 + (i - 1) % 64 + 1 ≡ i = omega (arith, is.0) in
          subst P back (at ((i - 1) / 64) ((i - 1) % 64) (row_within i is) (bit_within i))
      | inr not_one ↦ out i not_one
    ]

-- ---- one bit is set or cleared

to_or : (a b x y : Bool) → a ≡ x → b ≡ y → (a || b) ≡ (x || y)
to_or a b x y e f = ap (λ t. t || b) e ∙ ap (λ t. x || t) f

module _ (rows : List ℕ) (i : ℕ) (is : IsInode i) (long : length rows ≡ 16) where
  abbrev row : ℕ
  row = (i - 1) / 64

  abbrev place : ℕ
  place = (i - 1) % 64

  in_rows : row < length rows
  in_rows = let low : (i - 1) / 64 < 16 = row_within i is in omega (arith, long, low)

  in_row : place < 64
  in_row = bit_within i

  abbrev set_row : List ℕ
  set_row = set rows row (bit_or (get_or rows row 0) (1 * 2 ^ place % 2 ^ 64))

  abbrev cleared_row : List ℕ
  cleared_row = set rows row (bit_and (get_or rows row 0) (bit_not w64 (1 * 2 ^ place % 2 ^ 64)))

  apart_place : (j : ℕ) → IsInode j → j ≢ i → (j - 1) / 64 ≡ row → (j - 1) % 64 ≢ place
  apart_place j js other same bits = other (one_place j i js is same bits)

  own_row : (v : ℕ) → get_or (set rows row v) row 0 ≡ v
  own_row v = get_or-set_same rows row v 0 in_rows

  -- where two lists of rows have another bit at the inode alone
  one_bit : (v : ℕ) (j : ℕ) → IsInode j → j ≢ i → ((b : ℕ) → b < 64 → b ≢ place → bit_at v b ≡ bit_at (get_or rows row 0) b) → has (set rows row v) j ≡ has rows j
  one_bit v j js other same =
      elim (eqb_tells ((j - 1) / 64) row) [
        | inl here ↦
            has_at (set rows row v) j js
            ∙ ap (λ k. nat_eq (bit_at (get_or (set rows row v) k 0) ((j - 1) % 64)) 1) here.1
            ∙ ap (λ n. nat_eq (bit_at n ((j - 1) % 64)) 1) (own_row v)
            ∙ ap (λ n. nat_eq n 1) (same ((j - 1) % 64) (bit_within j) (apart_place j js other here.1))
            ∙ sym (has_at rows j js ∙ ap (λ k. nat_eq (bit_at (get_or rows k 0) ((j - 1) % 64)) 1) here.1)
        | inr there ↦
            has_at (set rows row v) j js
            ∙ ap (λ n. nat_eq (bit_at n ((j - 1) % 64)) 1) (get_or-set_other rows row ((j - 1) / 64) v 0 there.1)
            ∙ sym (has_at rows j js)
      ]

  own_bit : (v : ℕ) → has (set rows row v) i ≡ nat_eq (bit_at v place) 1
  own_bit v = has_at (set rows row v) i is ∙ ap (λ n. nat_eq (bit_at n place) 1) (own_row v)

  pub has_set : (j : ℕ) → has (set rows ((i - 1) / 64) (bit_or (get_or rows ((i - 1) / 64) 0) (1 * 2 ^ ((i - 1) % 64) % 2 ^ 64))) j ≡ also (has rows) i j
  has_set j =
      elim (eqb_tells j i) [
        | inl same ↦
            ap (has set_row) same.1
            ∙ own_bit (bit_or (get_or rows row 0) (1 * 2 ^ place % 2 ^ 64))
            ∙ ap (λ n. nat_eq n 1) (bit_at_set_same w64 (get_or rows row 0) place in_row)
            ∙ sym (ap (λ b. b || has rows j) same.0)
        | inr other ↦
            beside j other.1 ∙ sym (ap (λ b. b || has rows j) other.0)
      ]
    where
      beside : (j : ℕ) → j ≢ i → has set_row j ≡ has rows j
      beside j other = elim (inode_tells j) [
        | inl js ↦ one_bit (bit_or (get_or rows row 0) (1 * 2 ^ place % 2 ^ 64)) j js other (λ b low off. bit_at_set_other w64 (get_or rows row 0) place in_row b off)
        | inr out ↦ has_none set_row j out ∙ sym (has_none rows j out)
      ]

  pub has_cleared : (j : ℕ) → has (set rows ((i - 1) / 64) (bit_and (get_or rows ((i - 1) / 64) 0) (bit_not w64 (1 * 2 ^ ((i - 1) % 64) % 2 ^ 64)))) j ≡ without (has rows) i j
  has_cleared j =
      elim (eqb_tells j i) [
        | inl same ↦
            ap (has cleared_row) same.1
            ∙ own_bit (bit_and (get_or rows row 0) (bit_not w64 (1 * 2 ^ place % 2 ^ 64)))
            ∙ ap (λ n. nat_eq n 1) (bit_at_clear_same w64 (get_or rows row 0) place in_row)
            ∙ sym (ap (λ b. cond b false (has rows j)) same.0)
        | inr other ↦
            beside j other.1 ∙ sym (ap (λ b. cond b false (has rows j)) other.0)
      ]
    where
      beside : (j : ℕ) → j ≢ i → has cleared_row j ≡ has rows j
      beside j other = elim (inode_tells j) [
        | inl js ↦ one_bit (bit_and (get_or rows row 0) (bit_not w64 (1 * 2 ^ place % 2 ^ 64))) j js other (λ b low off. bit_at_clear_other w64 (get_or rows row 0) place in_row b low off)
        | inr out ↦ has_none cleared_row j out ∙ sym (has_none rows j out)
      ]

-- ---- all rows

or_bits : (x y : ℕ) → x < 2 → y < 2 → nat_eq (max x y) 1 ≡ (nat_eq x 1 || nat_eq y 1)
or_bits x y xs ys = grind (arith, nat_tests)

less_bits : (x y : ℕ) → x < 2 → y < 2 → nat_eq (min x (1 - y)) 1 ≡ (nat_eq x 1 && not (nat_eq y 1))
less_bits x y xs ys = grind (arith, nat_tests)

module _ (a b : List ℕ) where
  pub has_either : (new : List ℕ) → ((r : ℕ) → r < 16 → get_or new r 0 ≡ bit_or (get_or a r 0) (get_or b r 0)) → (i : ℕ) → has new i ≡ (has a i || has b i)
  has_either new each =
      by_bits (λ i. has new i ≡ (has a i || has b i))
      (λ i out. has_none new i out ∙ sym (to_or (has a i) (has b i) false false (has_none a i out) (has_none b i out)))
      (λ r p row low.
      has_bit new r p row low
      ∙ ap (λ n. nat_eq (bit_at n p) 1) (each r row)
      ∙ ap (λ n. nat_eq n 1) (bit_at_or (get_or a r 0) (get_or b r 0) p)
      ∙ or_bits (bit_at (get_or a r 0) p) (bit_at (get_or b r 0) p) (bit_at-lt (get_or a r 0) p) (bit_at-lt (get_or b r 0) p)
      ∙ sym (to_or (has a (r * 64 + p + 1)) (has b (r * 64 + p + 1)) _ _ (has_bit a r p row low) (has_bit b r p row low)))

  and_not : (x y u v : Bool) → x ≡ u → y ≡ v → (x && not y) ≡ (u && not v)
  and_not x y u v e f = ap (λ t. t && not y) e ∙ ap (λ t. u && not t) f

  pub has_less : (new : List ℕ) → ((r : ℕ) → r < 16 → get_or b r 0 < 2 ^ 64) → ((r : ℕ) → r < 16 → get_or new r 0 ≡ bit_and (get_or a r 0) (bit_not w64 (get_or b r 0))) → (i : ℕ) → has new i ≡ (has a i && not (has b i))
  has_less new fits each =
      by_bits (λ i. has new i ≡ (has a i && not (has b i)))
      (λ i out. has_none new i out ∙ sym (and_not (has a i) (has b i) false false (has_none a i out) (has_none b i out)))
      (λ r p row low.
      has_bit new r p row low
      ∙ ap (λ n. nat_eq (bit_at n p) 1) (each r row)
      ∙ ap (λ n. nat_eq n 1) (bit_at_and (get_or a r 0) (bit_not w64 (get_or b r 0)) p ∙ ap (min (bit_at (get_or a r 0) p)) (bit_at_not w64 (get_or b r 0) p (fits r row) low))
      ∙ less_bits (bit_at (get_or a r 0) p) (bit_at (get_or b r 0) p) (bit_at-lt (get_or a r 0) p) (bit_at-lt (get_or b r 0) p)
      ∙ sym (and_not (has a (r * 64 + p + 1)) (has b (r * 64 + p + 1)) _ _ (has_bit a r p row low) (has_bit b r p row low)))

-- no bit is set, or all are
pub has_zero : (rows : List ℕ) → ((r : ℕ) → r < 16 → get_or rows r 0 ≡ 0) → (i : ℕ) → has rows i ≡ false
has_zero rows none = by_bits (λ i. has rows i ≡ false) (λ i out. has_none rows i out) (λ r p row low. has_bit rows r p row low ∙ ap (λ n. nat_eq (bit_at n p) 1) (none r row) ∙ ap (λ n. nat_eq n 1) (bit_at-zero p))

-- ---- the first of them

-- the lower inodes are those of the rows before, and of lower bits
pub below_by_bits : (P : ℕ → Type 0) (row bit : ℕ) → row < 16 → bit < 64
    → ((r b : ℕ) → r < row → b < 64 → P (r * 64 + b + 1)) → ((b : ℕ) → b < bit → P (row * 64 + b + 1))
    → (j : ℕ) → IsInode j → j < row * 64 + bit + 1 → P j
below_by_bits P row bit in_rows in_row before beside j js less =
    let back : (j - 1) / 64 * 64 + (j - 1) % 64 + 1 ≡ j = omega (arith, js.0) in
    let low : (j - 1) / 64 ≤ row = omega (arith, less, js.0, in_row) in
    elim (eqb_tells ((j - 1) / 64) row) [
      | inl same ↦
          let lower : (j - 1) % 64 < bit = omega (arith, less, js.0, in_row, same.1) in
          subst P back (subst (λ r. P (r * 64 + (j - 1) % 64 + 1)) (sym same.1) (beside ((j - 1) % 64) lower))
      | inr other ↦ subst P back (before ((j - 1) / 64) ((j - 1) % 64) (omega (arith, low, other.1)) (bit_within j))
    ]

module _ (rows : List ℕ) (row : ℕ) (in_rows : row < 16) where
  abbrev bits : ℕ
  bits = get_or rows row 0

  pub first_set : (t : ℕ) → t < 64 → bit_at bits t ≡ 1 → ((b : ℕ) → b < t → bit_at bits b ≡ 0) → ((r : ℕ) → r < row → get_or rows r 0 ≡ 0)
      → IsInode (row * 64 + t + 1) × (has rows (row * 64 + t + 1) ≡ true) × ((j : ℕ) → j < row * 64 + t + 1 → has rows j ≡ false)
  first_set t low here lower before = (
    (omega (arith, in_rows, low), omega (arith, in_rows, low)),
    has_bit rows row t in_rows low ∙ ap (λ n. nat_eq n 1) here,
    λ j less. elim (inode_tells j) [
      | inl js ↦ below_by_bits (λ j. has rows j ≡ false) row t in_rows low
          (λ r b row_low bit_low. has_bit rows r b (omega (arith, row_low, in_rows)) bit_low ∙ ap (λ n. nat_eq (bit_at n b) 1) (before r row_low) ∙ ap (λ n. nat_eq n 1) (bit_at-zero b))
          (λ b bit_low. has_bit rows row b in_rows (omega (arith, bit_low, low)) ∙ ap (λ n. nat_eq n 1) (lower b bit_low)) j js less
      | inr out ↦ has_none rows j out
    ],
  )

  pub first_clear : (t : ℕ) → t < 64 → bit_at bits t ≡ 0 → ((b : ℕ) → b < t → bit_at bits b ≡ 1) → ((r : ℕ) → r < row → get_or rows r 0 ≡ 2 ^ 64 - 1)
      → IsInode (row * 64 + t + 1) × (has rows (row * 64 + t + 1) ≡ false) × ((j : ℕ) → IsInode j → j < row * 64 + t + 1 → has rows j ≡ true)
  first_clear t low here lower before = (
    (omega (arith, in_rows, low), omega (arith, in_rows, low)),
    has_bit rows row t in_rows low ∙ ap (λ n. nat_eq n 1) here,
    below_by_bits (λ j. has rows j ≡ true) row t in_rows low
        (λ r b row_low bit_low. has_bit rows r b (omega (arith, row_low, in_rows)) bit_low ∙ ap (λ n. nat_eq (bit_at n b) 1) (before r row_low) ∙ ap (λ n. nat_eq n 1) (bit_at_ones 64 b bit_low))
        (λ b bit_low. has_bit rows row b in_rows (omega (arith, bit_low, low)) ∙ ap (λ n. nat_eq n 1) (lower b bit_low)),
  )

pub has_ones : (rows : List ℕ) → ((r : ℕ) → r < 16 → get_or rows r 0 ≡ 2 ^ 64 - 1) → (i : ℕ) → IsInode i → has rows i ≡ true
has_ones rows all i is =
    has_at rows i is
    ∙ ap (λ n. nat_eq (bit_at n ((i - 1) % 64)) 1) (all ((i - 1) / 64) (row_within i is))
    ∙ ap (λ n. nat_eq n 1) (bit_at_ones 64 ((i - 1) % 64) (bit_within i))

-- ---- rows have 64 bits

pub fits_set : (rows : List ℕ) (k v : ℕ) → k < length rows → v < 2 ^ 64 → ((r : ℕ) → get_or rows r 0 < 2 ^ 64) → (r : ℕ) → get_or (set rows k v) r 0 < 2 ^ 64
fits_set rows k v within small fits r =
    elim (eqb_tells r k) [
      | inl same ↦ subst (λ n. n < 2 ^ 64) (sym (ap (λ j. get_or (set rows k v) j 0) same.1 ∙ get_or-set_same rows k v 0 within)) small
      | inr other ↦ subst (λ n. n < 2 ^ 64) (sym (get_or-set_other rows k r v 0 other.1)) (fits r)
    ]

-- where a row has a bit that the other row lacks, one set has an inode that the other lacks
pub lacks_one : (some rows : List ℕ) (r : ℕ) → r < 16 → get_or some r 0 < 2 ^ 64 → get_or rows r 0 < 2 ^ 64 → bit_and (get_or some r 0) (bit_not w64 (get_or rows r 0)) ≢ 0 → ((i : ℕ) → has some i ≡ true → has rows i ≡ true) → ⊥
lacks_one some rows r low fits_some fits_rows off all =
    let less : ℕ = bit_and (get_or some r 0) (bit_not w64 (get_or rows r 0)) in
    let small : bit_not w64 (get_or rows r 0) < 2 ^ 64 = omega arith in
    let lowest : _ = bit_at-trailing_zeros w64 (bit_and (get_or some r 0) (bit_not w64 (get_or rows r 0))) (omega (arith, off)) (and_lt 64 (get_or some r 0) (bit_not w64 (get_or rows r 0)) fits_some small) in
    at_bit (trailing_zeros w64 (bit_and (get_or some r 0) (bit_not w64 (get_or rows r 0)))) lowest.0 lowest.1
  where
    at_bit : (t : ℕ) → t < 64 → bit_at (bit_and (get_or some r 0) (bit_not w64 (get_or rows r 0))) t ≡ 1 → ⊥
    at_bit t in_row set =
        let both : min (bit_at (get_or some r 0) t) (1 - bit_at (get_or rows r 0) t) ≡ 1 = sym (bit_at_and (get_or some r 0) (bit_not w64 (get_or rows r 0)) t ∙ ap (min (bit_at (get_or some r 0) t)) (bit_at_not w64 (get_or rows r 0) t fits_rows in_row)) ∙ set in
        let few : bit_at (get_or some r 0) t < 2 = bit_at-lt (get_or some r 0) t in
        let there : bit_at (get_or some r 0) t ≡ 1 = omega (arith, both, few) in
        let gone : bit_at (get_or rows r 0) t ≡ 0 = omega (arith, both) in
        let has_some : has some (r * 64 + t + 1) ≡ true = has_bit some r t low in_row ∙ ap (λ n. nat_eq n 1) there in
        let has_none : has rows (r * 64 + t + 1) ≡ false = has_bit rows r t low in_row ∙ ap (λ n. nat_eq n 1) gone in
        false≢true (sym has_none ∙ all (r * 64 + t + 1) has_some)

-- where no row does, it lacks none
pub lacks_none : (some rows : List ℕ) → ((r : ℕ) → r < 16 → get_or rows r 0 < 2 ^ 64) → ((r : ℕ) → r < 16 → bit_and (get_or some r 0) (bit_not w64 (get_or rows r 0)) ≡ 0) → (i : ℕ) → has some i ≡ true → has rows i ≡ true
lacks_none some rows fits none =
    by_bits (λ i. has some i ≡ true → has rows i ≡ true)
    (λ i out e. absurd (false≢true (sym (has_none some i out) ∙ e)))
    (λ r p row low e.
    let there : bit_at (get_or some r 0) p ≡ 1 = eqb-true _ _ (sym (has_bit some r p row low) ∙ e) in
    let both : min (bit_at (get_or some r 0) p) (1 - bit_at (get_or rows r 0) p) ≡ 0 = sym (bit_at_and (get_or some r 0) (bit_not w64 (get_or rows r 0)) p ∙ ap (min (bit_at (get_or some r 0) p)) (bit_at_not w64 (get_or rows r 0) p (fits r row) low)) ∙ ap (λ n. bit_at n p) (none r row) ∙ bit_at-zero p in
    let few : bit_at (get_or rows r 0) p < 2 = bit_at-lt (get_or rows r 0) p in
    let has_it : bit_at (get_or rows r 0) p ≡ 1 = omega (arith, there, both, few) in
    has_bit rows r p row low ∙ ap (λ n. nat_eq n 1) has_it)

-- who is no inode is in no set, and taken out of none
pub without_none : (rows : List ℕ) (i : ℕ) → is_inode i ≡ false → (j : ℕ) → has rows j ≡ without (has rows) i j
without_none rows i out j =
    elim (eqb_tells j i) [
      | inl same ↦ ap (has rows) same.1 ∙ has_none rows i out ∙ sym (ap (λ b. cond b false (has rows j)) same.0)
      | inr other ↦ sym (ap (λ b. cond b false (has rows j)) other.0)
    ]
