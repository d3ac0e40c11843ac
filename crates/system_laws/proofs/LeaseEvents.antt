-- The leases of a client: what its pass holds is what its part of the world holds.
use Rattle.std.proofs.Common.{◌≡◌, ◌≢◌, ◌⊎◌, inl, inr, ℕ, ◌-◌, ◌≤◌, ◌==◌, ◌&&◌, ◌||◌, Bool, true, false, cond, List, length, refl, sym, ap, ◌∙◌, arith}
use Rattle.std.specs.Prelude.{slice_index_or, slice_set, nat_le}
use Rattle.std.proofs.lemmas.Bool.{and_parts, cases_lt, false≢true}
use Rattle.std.proofs.lemmas.Bool.Decides.{eqb_tells, nat_tests}
use Rattle.std.proofs.lemmas.List.{get_or-set_same, get_or-set_other, get_or_past}
use Rattle.event_steps.specs.file_graph.Numbers.{is_inode}
use Rattle.event_steps.specs.lease_manager.Parts.{AreCompatible}
use Rattle.event_steps.specs.lease_manager.Marks.{is_lease}
use Rattle.event_steps.specs.lease_manager.Passes.{PassView, lease_of, with_lease, without_lease}
use Rattle.event_steps.specs.lease_manager.PassLeases.{is_reading, is_writing, reads, writes}
use Rattle.event_steps.specs.lease_manager.Words.{HasWord, lease_place}
use Rattle.event_steps.specs.lease_manager.declared.view.LeaseMode.{LeaseMode}
use Rattle.event_steps.specs.lease_manager.declared.view.LeaseMode.TheVariants.{Free, Reading, Writing, Trying}

-- ---- the pass at one inode

-- the place of another inode is another one
apart : (i j : ℕ) → HasWord i → is_inode j ≡ true → j ≢ i → lease_place j ≢ lease_place i
apart i j word is off same = off (one_of word.0 (at_least j is) same)
  where
    at_least : (j : ℕ) → is_inode j ≡ true → 1 ≤ j
    at_least j is = let low = and_parts (nat_le 1 j) (nat_le j 1024) is in grind (arith, nat_tests, low.0)

    one_of : {i j : ℕ} → 1 ≤ i → 1 ≤ j → j - 1 ≡ i - 1 → j ≡ i
    one_of low_i low_j same = omega (arith, low_i, low_j, same)

-- with other modes at the place of one inode, what is said of each mode is said of the new one there, and of the others as before
pub at_place : (of : LeaseMode → Bool) (modes : List LeaseMode) (i j : ℕ) (mode : LeaseMode) → HasWord i → slice_index_or (slice_set modes (lease_place i) mode) (lease_place i) Free ≡ mode
    → (is_inode j && of (slice_index_or (slice_set modes (lease_place i) mode) (lease_place j) Free)) ≡ cond (j == i) (is_inode j && of mode) (is_inode j && of (slice_index_or modes (lease_place j) Free))
at_place of modes i j mode word there = elim (eqb_tells j i) [
  | inl same ↦
      ap (λ (k : ℕ). is_inode j && of (slice_index_or (slice_set modes (lease_place i) mode) (lease_place k) Free)) same.1 ∙ ap (λ (m : LeaseMode). is_inode j && of m) there
      ∙ sym (ap (λ b. cond b (is_inode j && of mode) (is_inode j && of (slice_index_or modes (lease_place j) Free))) same.0)
  | inr other ↦ elsewhere (is_inode j) refl other.1 ∙ sym (ap (λ b. cond b (is_inode j && of mode) (is_inode j && of (slice_index_or modes (lease_place j) Free))) other.0)
]
  where
    elsewhere : (b : Bool) → is_inode j ≡ b → j ≢ i → (is_inode j && of (slice_index_or (slice_set modes (lease_place i) mode) (lease_place j) Free)) ≡ (is_inode j && of (slice_index_or modes (lease_place j) Free))
    elsewhere true is off = ap (λ (m : LeaseMode). is_inode j && of m) (get_or-set_other modes (lease_place i) (lease_place j) mode Free (apart i j word is off))
    elsewhere false is off = ap (λ b. b && of (slice_index_or (slice_set modes (lease_place i) mode) (lease_place j) Free)) is ∙ sym (ap (λ b. b && of (slice_index_or modes (lease_place j) Free)) is)

-- a client's inode is one
is_one : (i : ℕ) → HasWord i → is_inode i ≡ true
is_one i word = low_high i word.0 word.1
  where
    low_high : (i : ℕ) → 1 ≤ i → i ≤ 1024 → is_inode i ≡ true
    low_high i low high = grind (arith, nat_tests)

-- with another lease of one inode, what is said of each lease is said of the new one there, and of the others as before
pub said_with : (of : LeaseMode → Bool) (p : PassView) (i j : ℕ) (mode : LeaseMode) → HasWord i → lease_of (with_lease p i mode) i ≡ mode
    → (is_inode j && of (lease_of (with_lease p i mode) j)) ≡ cond (j == i) (of mode) (is_inode j && of (lease_of p j))
said_with of p i j mode word there = at_place of p.part.modes i j mode word there ∙ inside (eqb_tells j i)
  where
    inside : (((j == i) ≡ true) × (j ≡ i)) ⊎ (((j == i) ≡ false) × (j ≢ i)) → cond (j == i) (is_inode j && of mode) (is_inode j && of (lease_of p j)) ≡ cond (j == i) (of mode) (is_inode j && of (lease_of p j))
    inside (inl same) = ap (λ b. cond (j == i) (b && of mode) (is_inode j && of (lease_of p j))) (ap is_inode same.1 ∙ is_one i word)
    inside (inr other) = ap (λ b. cond b (is_inode j && of mode) (is_inode j && of (lease_of p j))) other.0 ∙ sym (ap (λ b. cond b (of mode) (is_inode j && of (lease_of p j))) other.0)

-- a lease that is given is free from then on
pub freed : (p : PassView) (i : ℕ) → lease_of p i ≢ Free → lease_of (without_lease p i) i ≡ Free
freed p i held = elim (cases_lt (lease_place i) (length p.part.modes)) [
  | inl within ↦ get_or-set_same p.part.modes (lease_place i) Free Free within
  | inr past ↦ absurd (held (get_or_past p.part.modes (lease_place i) Free past))
]

-- ---- two clients that have met

-- nobody else writes what one reads
pub unwritten_beside : (p q : PassView) (i : ℕ) → HasWord i → AreCompatible p.part q.part → is_lease (lease_of p i) ≡ true → writes q i ≡ false
unwritten_beside p q i word met has = ap (λ b. b && is_writing (lease_of q i)) (is_one i word) ∙ no_writer (lease_of q i) refl
  where
    no_writer : (m : LeaseMode) → lease_of q i ≡ m → is_writing m ≡ false
    no_writer Free is = refl
    no_writer Reading is = refl
    no_writer Writing is = absurd (false≢true (sym ((met.1 (lease_place i) (omega (arith, word.0, word.1))).1 is) ∙ has))
    no_writer Trying is = refl

-- and nobody else holds what one writes
pub unheld_beside : (p q : PassView) (i : ℕ) → HasWord i → AreCompatible p.part q.part → lease_of p i ≡ Writing → (reads q i || writes q i) ≡ false
unheld_beside p q i word met has = ap (λ b. b && is_reading (lease_of q i) || b && is_writing (lease_of q i)) (is_one i word) ∙ none (lease_of q i) ((met.1 (lease_place i) (omega (arith, word.0, word.1))).0 has)
  where
    none : (m : LeaseMode) → is_lease m ≡ false → (is_reading m || is_writing m) ≡ false
    none Free e = refl
    none Reading e = absurd (false≢true (sym e))
    none Writing e = absurd (false≢true (sym e))
    none Trying e = refl
