-- Marks as they spread.
use Rattle.std.proofs.Common.{◌≡◌, inl, inr, ℕ, suc, ◌+◌, ◌<◌, ◌≤◌, List, ap, sym, ◌∙◌, subst, true, false, Bool, arith, length, get_or, set, cond}
use Rattle.std.specs.Prelude.{not}
use Rattle.std.proofs.lemmas.List.{get_or-set_same, get_or-set_other}
use Rattle.std.proofs.lemmas.List.Sums.{sum_by-set}
use Rattle.std.proofs.lemmas.Bool.Decides.{eqb_tells}
use Rattle.std.proofs.Math.Decide.{dec_le}
use Rattle.std.proofs.Math.ListN.{length-set}
use Rattle.record_validation.specs.file_graph.Graph.{Graph}
use Rattle.graph_check.proofs.Entries.{one_where}
use Rattle.graph_check.specs.Marks.{is_marked, parent, AllClimb, HasMarkedParent, IsClosedAt, unmarked_count}

-- a new mark is one place fewer without
pub one_fewer : (marks : List Bool) (i : ℕ) → i < length marks → is_marked marks i ≡ false → unmarked_count (set marks i true) + 1 ≡ unmarked_count marks
one_fewer marks i inside off =
    let moved = sum_by-set (λ b. cond (not b) 1 0) marks i true false inside in
    let was : one_where (not (get_or marks i false)) ≡ 1 = ap (λ b. one_where (not b)) off in
    omega (arith, moved, was)

-- marks stay
pub still_marked : (marks : List Bool) (i j : ℕ) → i < length marks → is_marked marks j ≡ true → is_marked (set marks i true) j ≡ true
still_marked marks i j inside is = elim (eqb_tells j i) [
  | inl same ↦ subst (λ k. is_marked (set marks i true) k ≡ true) (sym same.1) (get_or-set_same marks i true false inside)
  | inr off ↦ get_or-set_other marks i j true false off.1 ∙ is
]

-- the marks climb on with a child of a marked one
pub climbs_on : (g : Graph) (marks : List Bool) (i : ℕ) → AllClimb g marks → HasMarkedParent g marks i → AllClimb g (set marks i true)
climbs_on g marks i all up j is = elim (eqb_tells j i) [
  | inl same ↦ let way = all up.0 up.2 in (suc way.0, (up.0, ap (parent g) same.1 ∙ up.1, way.1))
  | inr off ↦ all j (sym (get_or-set_other marks i j true false off.1) ∙ is)
]

-- the root alone is marked
pub first_root : (marks : List Bool) → 1 < length marks → is_marked (set marks 1 true) 1 ≡ true
first_root marks inside = get_or-set_same marks 1 true false inside

pub first_climb : (g : Graph) (marks : List Bool) → ((i : ℕ) → is_marked marks i ≡ false) → AllClimb g (set marks 1 true)
first_climb g marks none j is = elim (eqb_tells j 1) [
  | inl same ↦ (0, same.1)
  | inr off ↦ let clash : true ≡ false = sym is ∙ get_or-set_other marks 1 j true false off.1 ∙ none j in absurd (cc)
]

-- what a step of the spreading keeps, where the marks were `first` at its beginning
pub record Spreads (T : Graph → Type 0) (first now : List Bool) (i : ℕ) (has_spread : Bool) : Type 0 where
  pub places : length now ≡ 1025
  pub root : is_marked first 1 ≡ true → is_marked now 1 ≡ true
  pub climb : (g : Graph) → T g → AllClimb g first → AllClimb g now
  pub no_more : unmarked_count now ≤ unmarked_count first
  pub fewer : has_spread ≡ true → unmarked_count now < unmarked_count first
  pub closed : has_spread ≡ false → (g : Graph) → T g → (j : ℕ) → 1 ≤ j → j < i → IsClosedAt g now j

pub spreads_on : (T : Graph → Type 0) (first old new : List Bool) (i : ℕ) (before : Bool) → i ≤ 1024 → new ≡ set old i true → is_marked old i ≡ false → ((g : Graph) → T g → HasMarkedParent g old i) → Spreads T first old i before → Spreads T first new (i + 1) true
spreads_on T first old new i before high is was up now =
    let long = now.places in
    let inside : i < length old = omega (arith, long) in
    let one = one_fewer old i inside was in
    let same : unmarked_count new ≡ unmarked_count (set old i true) = ap unmarked_count is in
    let few = now.no_more in
    record {
      places = ap length is ∙ length-set old i true ∙ now.places;
      root = λ r. subst (λ m. is_marked m 1 ≡ true) (sym is) (still_marked old i 1 inside (now.root r));
      climb = λ g t all. subst (λ m. AllClimb g m) (sym is) (climbs_on g old i (now.climb g t all) (up g t));
      no_more = omega (arith, one, same, few);
      fewer = λ e. omega (arith, one, same, few);
      closed = λ e. absurd (cc);
    }

pub spreads_same : (T : Graph → Type 0) (first old new : List Bool) (i : ℕ) (before : Bool) → new ≡ old → ((g : Graph) → T g → IsClosedAt g old i) → Spreads T first old i before → Spreads T first new (i + 1) before
spreads_same T first old new i before is here now =
    let same : unmarked_count new ≡ unmarked_count old = ap unmarked_count is in
    let few = now.no_more in
    record {
      places = ap length is ∙ now.places;
      root = λ r. subst (λ m. is_marked m 1 ≡ true) (sym is) (now.root r);
      climb = λ g t all. subst (λ m. AllClimb g m) (sym is) (now.climb g t all);
      no_more = omega (arith, same, few);
      fewer = λ e. let less = now.fewer e in omega (arith, same, less);
      closed = λ e g t j low high. subst (λ m. IsClosedAt g m j) (sym is) (elim (dec_le (j + 1) i) [
        | yes below ↦ now.closed e g t j low (omega (arith, below))
        | no last ↦ subst (λ k. IsClosedAt g old k) (let k : i ≡ j = omega (arith, last) in k) (here g t)
      ]);
    }

-- one more number
pub more_below : (P : ℕ → Type 0) (n : ℕ) → ((j : ℕ) → 1 ≤ j → j < n → P j) → P n → (j : ℕ) → 1 ≤ j → j < n + 1 → P j
more_below P n before here j low high = elim (dec_le (j + 1) n) [
  | yes below ↦ before j low (omega (arith, below))
  | no last ↦ subst P (let k : n ≡ j = omega (arith, last) in k) here
]
