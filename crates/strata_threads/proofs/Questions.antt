-- What a client answers of what others ask, bit by bit and row by row.
use Rattle.std.proofs.Common.{◌≡◌, ◌≢◌, ◌⊎◌, inl, inr, ⊎_elim, ℕ, zero, suc, ◌+◌, ◌*◌, ◌<◌, ◌≤◌, List, length, set, refl, sym, ap, ◌∙◌, subst, arith}
use Rattle.std.specs.Prelude.{◌↔◌, Bool, true, false, IsTrue, bit_or, slice_index}
use Rattle.std.specs.Int.{bit_at}
use Rattle.std.proofs.lemmas.Bool.Decides.{eqb_tells}
use Rattle.std.proofs.lemmas.List.{get_or-set_same, get_or-set_other}
use Rattle.libfs.specs.lease_manager.Passes.{lease_of}
use Rattle.libfs.specs.lease_manager.Words.{HasWord}
use Rattle.libfs.specs.lease_manager.declared.view.LeaseMode.TheVariants.{Free}
use Rattle.libfs.specs.View.{ClientView}
use Rattle.strata_threads.specs.HeardQuestions.{AreGivenOrAsked, AreHeldAndAsked, HasAnsweredRows, HasGivenAsked, HasGivenAskedRows, HasHeardRows, IsAskedOf, IsGivenOrAsked, IsHeldAndAsked, IsSomeLeft, row_of}
use Rattle.strata_threads.specs.LeaseReturn.{HasOnlyGiven}
use Rattle.strata_threads.proofs.LeaseReturn.{can_before}

below : (m n : ℕ) → m < n + 1 → m ≢ n → m < n
below m n low off = grind arith

has_word : (row bit : ℕ) → row < 16 → bit < 64 → HasWord (64 * row + bit + 1)
has_word row bit few low = (omega arith, omega (arith, few, low))

-- ---- rows of bits

pub later_more : (asked now : List ℕ) (n left : ℕ) → ((row : ℕ) → n ≤ row → slice_index now row ≡ slice_index asked row) → (row : ℕ) → n + 1 ≤ row → slice_index (set now n left) row ≡ slice_index asked row
later_more asked now n left later row past = get_or-set_other now n row left 0 (λ same. absurd (omega (arith, past, same))) ∙ later row (omega (arith, past))

pub none_left_more : (now : List ℕ) (n left : ℕ) → n < length now → left ≡ 0 → ((row : ℕ) → row < n → slice_index now row ≡ 0) → (row : ℕ) → row < n + 1 → slice_index (set now n left) row ≡ 0
none_left_more now n left inside is before row within = elim (eqb_tells row n) [
  | inl at ↦ ap (λ r. slice_index (set now n left) r) at.1 ∙ get_or-set_same now n left 0 inside ∙ is
  | inr other ↦ get_or-set_other now n row left 0 other.1 ∙ before row (below row n within other.1)
]

pub some_left_here : (now : List ℕ) (n left : ℕ) → n < length now → left ≢ 0 → IsSomeLeft (n + 1) (set now n left)
some_left_here now n left inside is = (n, omega arith, λ none. is (sym (get_or-set_same now n left 0 inside) ∙ none))

pub some_left_more : (now : List ℕ) (n left : ℕ) → IsSomeLeft n now → IsSomeLeft (n + 1) (set now n left)
some_left_more now n left before = (before.0, omega (arith, before.1), λ none. before.2 (sym (get_or-set_other now n before.0 left 0 (λ same. absurd (omega (arith, before.1, same)))) ∙ none))

pub left_is_known : (now : List ℕ) (n : ℕ) (is : Bool) → (IsTrue is → IsSomeLeft n now) → (is ≡ false → (row : ℕ) → row < n → slice_index now row ≡ 0) → IsTrue is ↔ IsSomeLeft n now
left_is_known now n true some none = (some, λ left. refl)
left_is_known now n false some none = (some, λ left. absurd (left.2 (none refl left.0 left.1)))

-- an inode that was asked for in one of these rows
abbrev IsAskedIn : ℕ → List ℕ → ℕ → Type 0
IsAskedIn rows asked i = (row : ℕ) × (row < rows) × IsAskedOf row (slice_index asked row) i

module _ {M : Type 0} where
  -- what was answered stays so while leases are given alone
  answered_then : (old new : ClientView M) (row left bit : ℕ) → row < 16 → bit < 64 → HasOnlyGiven old new → IsGivenOrAsked old row left bit → IsGivenOrAsked new row left bit
  answered_then old new row left bit few low given (inl free) =
      inl (⊎_elim (λ same. same ∙ free) (λ gone. gone.0) (given.none.leases (64 * row + bit + 1) (has_word row bit few low)))
  answered_then old new row left bit few low given (inr kept) = inr (kept.0, λ can. kept.1 (can_before old new given.none (64 * row + bit + 1) can))

  -- ---- the bits of a row

  -- those below n
  abbrev pub AreGivenOrAskedBelow : ℕ → ClientView M → ℕ → ℕ → ℕ → Type 0
  AreGivenOrAskedBelow n v row bits left = (bit : ℕ) → bit < n → bit_at bits bit ≡ 1 → IsGivenOrAsked v row left bit

  pub one_bit_more : (old new : ClientView M) (row bits left next n : ℕ) → row < 16 → n < 64 → HasOnlyGiven old new → AreGivenOrAskedBelow n old row bits left
      → (bit_at bits n ≡ 1 → IsGivenOrAsked new row next n) → ((other : ℕ) → other ≢ n → bit_at next other ≡ bit_at left other) → AreGivenOrAskedBelow (n + 1) new row bits next
  one_bit_more old new row bits left next n few low given before here rest bit within asked = elim (eqb_tells bit n) [
    | inl same ↦ subst (IsGivenOrAsked new row next) (sym same.1) (here (subst (λ b. bit_at bits b ≡ 1) same.1 asked))
    | inr other ↦ carried (answered_then old new row left bit few (omega (arith, below bit n within other.1, low)) given (before bit (below bit n within other.1) asked)) (rest bit other.1)
  ]
    where
      carried : IsGivenOrAsked new row left bit → bit_at next bit ≡ bit_at left bit → IsGivenOrAsked new row next bit
      carried (inl free) same = inl free
      carried (inr kept) same = inr (same ∙ kept.0, kept.1)

  -- ---- row by row

  -- the rows below n
  abbrev pub RowsAreGivenOrAsked : ℕ → ClientView M → List ℕ → List ℕ → Type 0
  RowsAreGivenOrAsked n v asked left = (row : ℕ) → row < n → AreGivenOrAsked v row (slice_index asked row) (slice_index left row)

  pub one_row_more : (old new : ClientView M) (asked now : List ℕ) (n left : ℕ) → n < 16 → n < length now → HasOnlyGiven old new → RowsAreGivenOrAsked n old asked now → slice_index now n ≡ slice_index asked n
      → AreGivenOrAsked new n (slice_index now n) left → RowsAreGivenOrAsked (n + 1) new asked (set now n left)
  one_row_more old new asked now n left few inside given before same here row within = elim (eqb_tells row n) [
    | inl at ↦
        subst (λ r. AreGivenOrAsked new r (slice_index asked r) (slice_index (set now n left) r)) (sym at.1)
        (subst (λ l. AreGivenOrAsked new n (slice_index asked n) l) (sym (get_or-set_same now n left 0 inside)) (subst (λ b. AreGivenOrAsked new n b left) same here))
    | inr other ↦
        subst (λ l. AreGivenOrAsked new row (slice_index asked row) l) (sym (get_or-set_other now n row left 0 other.1))
        (λ bit low is. answered_then old new row (slice_index now row) bit (omega (arith, below row n within other.1, few)) low given (before row (below row n within other.1) bit low is))
  ]

  -- ---- what is held of what is left

  -- of the bits below n
  abbrev pub AreHeldBelow : ℕ → ClientView M → ℕ → ℕ → ℕ → Type 0
  AreHeldBelow n v row bits left = (bit : ℕ) → bit < 64 → bit_at left bit ≡ 1 → (bit < n) × IsHeldAndAsked v row bits bit

  -- no lease has changed but of this inode
  abbrev pub ChangesAtMost : ℕ → ClientView M → ClientView M → Type 0
  ChangesAtMost inode old new = (i : ℕ) → HasWord i → i ≢ inode → lease_of new.pass i ≡ lease_of old.pass i

  pub one_bit_held : (old new : ClientView M) (row bits left next n : ℕ) → row < 16 → AreHeldBelow n old row bits left
      → (bit_at next n ≡ 1 → IsHeldAndAsked new row bits n) → ((other : ℕ) → other ≢ n → bit_at next other ≡ bit_at left other) → ChangesAtMost (64 * row + n + 1) old new → AreHeldBelow (n + 1) new row bits next
  one_bit_held old new row bits left next n few before here rest others bit within is = elim (eqb_tells bit n) [
    | inl same ↦ (omega (arith, same.1), subst (IsHeldAndAsked new row bits) (sym same.1) (here (subst (λ b. bit_at next b ≡ 1) same.1 is)))
    | inr other ↦ carried other.1 (before bit within (sym (rest bit other.1) ∙ is))
  ]
    where
      carried : bit ≢ n → (bit < n) × IsHeldAndAsked old row bits bit → (bit < n + 1) × IsHeldAndAsked new row bits bit
      carried off was = (omega (arith, was.0), (was.1.0, λ free. was.1.1 (sym (others (64 * row + bit + 1) (has_word row bit few within) (λ same. off (omega (arith, same)))) ∙ free)))

  -- the rows below n
  abbrev pub RowsAreHeld : ℕ → ClientView M → List ℕ → List ℕ → Type 0
  RowsAreHeld n v asked left = (row : ℕ) → row < n → AreHeldAndAsked v row (slice_index asked row) (slice_index left row)

  -- an inode of another row keeps its lease
  of_other_row : (old new : ClientView M) (row n bits bit : ℕ) → row < 16 → bit < 64 → row ≢ n → HasGivenAsked n bits old new → lease_of new.pass (64 * row + bit + 1) ≡ lease_of old.pass (64 * row + bit + 1)
  of_other_row old new row n bits bit few low off given = elim (given (64 * row + bit + 1) (has_word row bit few low)) [
    | inl same ↦ same
    | inr of ↦ absurd (off (omega (arith, low, of.1, of.2)))
  ]

  pub one_row_held : (old new : ClientView M) (asked now : List ℕ) (n left : ℕ) → n < 16 → n < length now → RowsAreHeld n old asked now → slice_index now n ≡ slice_index asked n
      → HasGivenAsked n (slice_index now n) old new → AreHeldAndAsked new n (slice_index now n) left → RowsAreHeld (n + 1) new asked (set now n left)
  one_row_held old new asked now n left few inside before same given here row within = elim (eqb_tells row n) [
    | inl at ↦
        subst (λ r. AreHeldAndAsked new r (slice_index asked r) (slice_index (set now n left) r)) (sym at.1)
        (subst (λ l. AreHeldAndAsked new n (slice_index asked n) l) (sym (get_or-set_same now n left 0 inside)) (subst (λ b. AreHeldAndAsked new n b left) same here))
    | inr other ↦
        subst (λ l. AreHeldAndAsked new row (slice_index asked row) l) (sym (get_or-set_other now n row left 0 other.1))
        (λ bit low is. carried other.1 bit low (before row (below row n within other.1) bit low is))
  ]
    where
      carried : row ≢ n → (bit : ℕ) → bit < 64 → IsHeldAndAsked old row (slice_index asked row) bit → IsHeldAndAsked new row (slice_index asked row) bit
      carried off bit low was = (was.0, λ free. was.1 (sym (of_other_row old new row n (slice_index now n) bit (omega (arith, below row n within off, few)) low off given) ∙ free))

  -- ---- what is given

  -- a lease that stays is as it was, or was given before
  stays : (first old new : ClientView M) (A : Type 0) (i : ℕ) → lease_of new.pass i ≡ lease_of old.pass i → (lease_of old.pass i ≡ lease_of first.pass i) ⊎ A → (lease_of new.pass i ≡ lease_of first.pass i) ⊎ A
  stays first old new A i then (inl before) = inl (then ∙ before)
  stays first old new A i then (inr given) = inr given

  pub one_bit_given : (first old new : ClientView M) (row bits n : ℕ) → n < 64 → HasGivenAsked row bits first old → (bit_at bits n ≢ 1 → new ≡ old) → ChangesAtMost (64 * row + n + 1) old new → HasGivenAsked row bits first new
  one_bit_given first old new row bits n low before unasked others i word = elim (eqb_tells i (64 * row + n + 1)) [
    | inl same ↦ elim (eqb_tells (bit_at bits n) 1) [
      | inl is ↦ inr (n, low, same.1, is.1)
      | inr off ↦ stays first old new (IsAskedOf row bits i) i (ap (λ (v : ClientView M). lease_of v.pass i) (unasked off.1)) (before i word)
    ]
    | inr other ↦ stays first old new (IsAskedOf row bits i) i (others i word other.1) (before i word)
  ]

  pub one_row_given : (first old new : ClientView M) (asked now : List ℕ) (n : ℕ) → HasGivenAskedRows n asked first old → slice_index now n ≡ slice_index asked n → HasGivenAsked n (slice_index now n) old new → HasGivenAskedRows (n + 1) asked first new
  one_row_given first old new asked now n before same here i word = elim (here i word) [
    | inl then ↦ stays first old new (IsAskedIn (n + 1) asked i) i then (wider (before i word))
    | inr of ↦ inr (n, omega arith, subst (λ bits. IsAskedOf n bits i) same of)
  ]
    where
      wider : (lease_of old.pass i ≡ lease_of first.pass i) ⊎ IsAskedIn n asked i → (lease_of old.pass i ≡ lease_of first.pass i) ⊎ IsAskedIn (n + 1) asked i
      wider (inl before) = inl before
      wider (inr asked) = inr (asked.0, omega (arith, asked.1), asked.2)

  -- ---- which rows are held

  -- of the inodes up to n none is held behind these rows
  abbrev pub HoldsWithinUpTo : ℕ → ℕ → ClientView M → Type 0
  HoldsWithinUpTo n rows v = (i : ℕ) → HasWord i → i ≤ n → rows ≤ row_of i → lease_of v.pass i ≡ Free

  -- ---- the rows that are heard and answered

  -- what is asked of other rows stays as they are heard
  heard_later : (n : ℕ) (old new : ClientView M) (asked after : List ℕ) → HasHeardRows n old asked new after → (row : ℕ) → n ≤ row → slice_index after row ≡ slice_index asked row
  heard_later zero old new asked after heard row past = ap (λ (xs : List ℕ). slice_index xs row) heard.1
  heard_later (suc n) old new asked after heard row past =
      ap (λ (xs : List ℕ). slice_index xs row) heard.5
      ∙ get_or-set_other heard.1 n row (bit_or (slice_index heard.1 n) heard.2) 0 (λ same. absurd (omega (arith, past, same)))
      ∙ heard_later n old heard.0 asked heard.1 heard.3 row (omega (arith, past))

  pub answers_rows : (rows : ℕ) (old heard new : ClientView M) (asked first known left last : List ℕ) → first ≡ asked → last ≡ left → HasHeardRows rows old first heard known
      → RowsAreGivenOrAsked rows new known left → RowsAreHeld rows new known left → HasOnlyGiven heard new → HasGivenAskedRows rows known heard new
      → ((row : ℕ) → rows ≤ row → slice_index left row ≡ slice_index known row) → HasAnsweredRows rows old asked new last
  answers_rows rows old heard new asked first known left last is stays hears answered only given unasked later =
      subst (λ (l : List ℕ). HasAnsweredRows rows old asked new l) (sym stays)
      (subst (λ (a : List ℕ). HasAnsweredRows rows old a new left) is (record {
        heard = heard;
        known = known;
        hears = hears;
        answered = answered;
        only = only;
        given = given;
        unasked = unasked;
        later = λ row past. later row past ∙ heard_later rows old heard first known hears row past;
      }))
