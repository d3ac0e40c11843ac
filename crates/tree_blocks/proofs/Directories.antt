-- The entries of a directory, as their dense places change.
use Rattle.std.proofs.Common.{◌≡◌, ◌≢◌, ◌⊎◌, inl, inr, ℕ, zero, suc, ◌+◌, ◌≤◌, ◌<◌, List, [], ◌∷◌, ◌++◌, map, refl, sym, ◌∙◌, ap, arith, true, false, Bool, cond, Option, Some, None}
use Rattle.std.specs.FinMap as fin
use Rattle.std.specs.Ordering.{nat_cmp, eq_by_cmp}
use Rattle.std.specs.Cmp.{eq_by_cmp_equiv}
use Rattle.std.specs.Cmp.Lexicographic.{slice_cmp, nat_list_cmp_total, texts_ties, same_text}
use Rattle.std.specs.List.{range_with_len}
use Rattle.std.specs.Prelude.{is_some}
use Rattle.std.proofs.lemmas.List.FromFn.{map-range_with_len_more}
use Rattle.std.proofs.lemmas.Bool.{cases_lt, cases_Bool}
use Rattle.graph_change.specs.file_graph.declared.effect.Kind.{Kind}
use Rattle.tree_blocks.specs.Inode.{Entry, named_entries, AreDistinct}

abbrev Name : Type 0
Name = List ℕ

abbrev listed : (ℕ → Entry) → ℕ → List Entry
listed f n = map f (range_with_len 0 n)

pub names_same : fin.IsAntisymmetric (slice_cmp nat_cmp)
names_same = fin.slice_cmp-IsAntisymmetric fin.nat_cmp-IsAntisymmetric

unfoldable pub same_name : (q x : Name) → Bool
same_name q x = eq_by_cmp (slice_cmp nat_cmp) q x

name-true : (q x : Name) → same_name q x ≡ true → q ≡ x
unfolding same_name
name-true q x e = same_text q x (sym (texts_ties q x ∙ e))

name_itself : (q : Name) → same_name q q ≡ true
unfolding same_name
name_itself q = (eq_by_cmp_equiv nat_list_cmp_total).refl q

name_other : (q x : Name) → q ≢ x → same_name q x ≡ false
name_other q x other = elim (cases_Bool (same_name q x)) [ inl is ↦ absurd (other (name-true q x is)) | inr is ↦ is ]

pub cases_name : (q x : Name) → ((q ≡ x) × (same_name q x ≡ true)) ⊎ ((q ≢ x) × (same_name q x ≡ false))
cases_name q x = elim (cases_Bool (same_name q x)) [
  | inl is ↦ inl (name-true q x is, is)
  | inr is ↦ inr ((λ e. absurd (cc (is, name_itself q, ap (same_name q) e))), is)
]

find_name : Name → List Entry → Option (ℕ × Kind)
find_name q es = fin.find (slice_cmp nat_cmp) q es

-- entries from place a on: where the name stands is what is found
there_from : (f : ℕ → Entry) (a n k : ℕ) (q : Name) → a ≤ k → k < a + n → (f k).0 ≡ q → ((j : ℕ) → a ≤ j → j < a + n → (f j).0 ≡ q → j ≡ k) → find_name q (map f (range_with_len a n)) ≡ Some (f k).1
unfolding find_name same_name
there_from f a zero k q low high is only = absurd (omega (arith, low, high))
there_from f a (suc n) k q low high is only =
    let rest = fin.find (slice_cmp nat_cmp) q (map f (range_with_len (a + 1) n)) in
    elim (cases_name q (f a).0) [
      | inl same ↦ ap (λ b. cond b (Some (f a).1) rest) same.1 ∙ ap (λ j. Some (f j).1) (only a (omega arith) (omega arith) (sym same.0))
      | inr other ↦
          let differs : a ≢ k = λ e. other.0 (sym (ap (λ j. (f j).0) e ∙ is)) in
          ap (λ b. cond b (Some (f a).1) rest) other.1
          ∙ there_from f (a + 1) n k q (omega (arith, low, differs)) (omega (arith, high)) is (λ j ge lt. only j (omega (arith, ge)) (omega (arith, lt)))
    ]

missing_from : (f : ℕ → Entry) (a n : ℕ) (q : Name) → ((j : ℕ) → a ≤ j → j < a + n → (f j).0 ≢ q) → find_name q (map f (range_with_len a n)) ≡ None
unfolding find_name same_name
missing_from f a zero q none = refl
missing_from f a (suc n) q none =
    ap (λ b. cond b (Some (f a).1) (fin.find (slice_cmp nat_cmp) q (map f (range_with_len (a + 1) n)))) (name_other q (f a).0 (λ e. none a (omega arith) (omega arith) (sym e)))
    ∙ missing_from f (a + 1) n q (λ j ge lt. none j (omega (arith, ge)) (omega (arith, lt)))

pub get_there : (f : ℕ → Entry) (n k : ℕ) (q : Name) → AreDistinct f n → k < n → (f k).0 ≡ q → fin.get (named_entries f n) q ≡ Some (f k).1
unfolding find_name
get_there f n k q distinct lt is = fin.get-from_entries nat_list_cmp_total (listed f n) q ∙ there_from f 0 n k q (omega arith) (omega (arith, lt)) is (λ j ge below e. distinct j k (omega (arith, below)) lt (e ∙ sym is))

pub get_missing : (f : ℕ → Entry) (n : ℕ) (q : Name) → ((j : ℕ) → j < n → (f j).0 ≢ q) → fin.get (named_entries f n) q ≡ None
unfolding find_name
get_missing f n q none = fin.get-from_entries nat_list_cmp_total (listed f n) q ∙ missing_from f 0 n q (λ j ge lt. none j (omega (arith, lt)))

-- a name stands at some place, or at none
pub place_of : (f : ℕ → Entry) (n : ℕ) (q : Name) → ((k : ℕ) × (k < n) × ((f k).0 ≡ q)) ⊎ ((j : ℕ) → j < n → (f j).0 ≢ q)
place_of f zero q = inr (λ j lt. absurd (omega (arith, lt)))
place_of f (suc n) q = elim (place_of f n q) [
  | inl found ↦ inl (found.0, omega (arith, found.1), found.2)
  | inr none ↦ elim (cases_name q (f n).0) [
    | inl same ↦ inl (n, omega arith, sym same.0)
    | inr other ↦ inr (λ j lt e. elim (cases_lt j n) [ inl below ↦ none j below e | inr ge ↦ other.0 (sym e ∙ ap (λ k. (f k).0) (omega (arith, lt, ge))) ])
  ]
]

-- as many names as places, which the charge counts
pub len_named : (f : ℕ → Entry) (n : ℕ) → AreDistinct f n → fin.len (named_entries f n) ≡ n
len_named f zero distinct = fin.len-empty (slice_cmp nat_cmp) (ℕ × Kind)
len_named f (suc n) distinct =
    let below : AreDistinct f n = λ i j li lj. distinct i j (omega (arith, li)) (omega (arith, lj)) in
    let more : n + 1 ≡ suc n = omega arith in
    let absent : fin.get (named_entries f n) (f n).0 ≡ None = get_missing f n (f n).0 (λ j lt is. absurd (omega (arith, lt, distinct j n (omega (arith, lt)) (omega arith) is))) in
    let missing : fin.find (slice_cmp nat_cmp) (f n).0 (listed f n) ≡ None = sym (fin.get-from_entries nat_list_cmp_total (listed f n) (f n).0) ∙ absent in
    let list : listed f (suc n) ≡ listed f n ++ f n ∷ [] = ap (listed f) (sym more) ∙ map-range_with_len_more f 0 n n (omega arith) in
    ap (λ es. fin.len (fin.from_entries {R = slice_cmp nat_cmp} es)) list
    ∙ ap fin.len (fin.from_entries_push nat_list_cmp_total names_same (listed f n) (f n).0 (f n).1 missing)
    ∙ fin.len-insert nat_list_cmp_total (named_entries f n) (f n).0 (f n).1
    ∙ ap (λ o. cond (is_some o) (fin.len (named_entries f n)) (fin.len (named_entries f n) + 1)) absent
    ∙ ap (λ x. x + 1) (len_named f n below) ∙ more
