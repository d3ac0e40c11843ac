-- Which of three generations is free.
use Rattle.std.proofs.Common.{◌≡◌, ◌≢◌, ◌⊎◌, inl, inr, ℕ, zero, suc, ◌%◌, ◌<◌, Bool, true, false, not, ◌&&◌, eqb, List, [], ◌∷◌, ◌++◌, length, drop, get_or, Some, refl, sym, subst, ◌∙◌, arith}
use Rattle.std.specs.Prelude.{find}
use Rattle.std.proofs.lemmas.Bool.{eqb-true, eqb-false, ne_eqb, and_parts, and_from, and_cases, cases_Bool, cond-true, cond-false, not-true, not-false, not_from_false, true≢false}
use Rattle.update_log.specs.WipeStops.{generation}
use Rattle.update_log.specs.RecordCounts.{next_generation, records_in, counted_records}
use Rattle.update_log.proofs.Counts.{header_tells}
use Rattle.log_survey.specs.Regions.{AreStale, HeadersName}
use Rattle.log_survey.specs.Generations.{later, is_free, IsNear}
use Rattle.log_survey.proofs.RegionLemmas.{other_counts_none, turn_small}

-- a name is this generation or the one after it
abbrev Hits : ℕ → ℕ → Type 0
Hits g name = (name ≡ g) ⊎ (name ≡ next_generation g)

-- a name is neither
abbrev Misses : ℕ → ℕ → Type 0
Misses g name = (name ≢ g) × (name ≢ next_generation g)

-- the test of one name
abbrev misses : ℕ → ℕ → Bool
misses g name = not (eqb name g) && not (eqb name (next_generation g))

misses_true : (g name : ℕ) → misses g name ≡ true → Misses g name
misses_true g name t =
    let parts = and_parts (not (eqb name g)) (not (eqb name (next_generation g))) t in
    (eqb-false name g (not-true (eqb name g) parts.0), eqb-false name (next_generation g) (not-true (eqb name (next_generation g)) parts.1))

true_misses : (g name : ℕ) → Misses g name → misses g name ≡ true
true_misses g name (own, next) =
    and_from (not (eqb name g)) (not (eqb name (next_generation g))) (not_from_false (eqb name g) (ne_eqb name g own)) (not_from_false (eqb name (next_generation g)) (ne_eqb name (next_generation g) next))

misses_false : (g name : ℕ) → misses g name ≡ false → Hits g name
misses_false g name f = elim (and_cases (not (eqb name g)) (not (eqb name (next_generation g))) f) [
  | inl own ↦ inl (eqb-true name g (not-false (eqb name g) own))
  | inr next ↦ inr (eqb-true name (next_generation g) (not-false (eqb name (next_generation g)) next))
]

-- ---- two names

two_names : (P : List ℕ → Type 0) (names : List ℕ) → length names ≡ 2 → ((a b : ℕ) → P (a ∷ b ∷ [])) → P names
two_names P [] e f = absurd (omega (arith, e))
two_names P (a ∷ []) e f = absurd (omega (arith, e))
two_names P (a ∷ b ∷ []) e f = f a b
two_names P (a ∷ b ∷ c ∷ rest) e f = absurd (omega (arith, e))

pair_free : (g a b : ℕ) → is_free (a ∷ b ∷ []) g ≡ true → Misses g a × Misses g b
pair_free g a b t =
    let first = and_parts (misses g a) (misses g b && true) t in
    let second = and_parts (misses g b) true first.1 in
    (misses_true g a first.0, misses_true g b second.0)

free_pair : (g a b : ℕ) → Misses g a → Misses g b → is_free (a ∷ b ∷ []) g ≡ true
free_pair g a b first second =
    and_from (misses g a) (misses g b && true) (true_misses g a first) (and_from (misses g b) true (true_misses g b second) refl)

pair_taken : (g a b : ℕ) → is_free (a ∷ b ∷ []) g ≡ false → Hits g a ⊎ Hits g b
pair_taken g a b f = elim (and_cases (misses g a) (misses g b && true) f) [
  | inl h ↦ inl (misses_false g a h)
  | inr h ↦ elim (and_cases (misses g b) true h) [
    | inl k ↦ inr (misses_false g b k)
    | inr never ↦ absurd (true≢false never)
  ]
]

-- ---- a free generation

-- no header names it or the one after it
pub free_unnamed : (names : List ℕ) (g : ℕ) → length names ≡ 2 → is_free names g ≡ true → (r : ℕ) → r < 2 → (get_or names r 0 ≢ g) × (get_or names r 0 ≢ next_generation g)
free_unnamed names g two = two_names (λ ns. is_free ns g ≡ true → (r : ℕ) → r < 2 → (get_or ns r 0 ≢ g) × (get_or ns r 0 ≢ next_generation g)) names two (of_pair g)
  where
    of_pair : (g a b : ℕ) → is_free (a ∷ b ∷ []) g ≡ true → (r : ℕ) → r < 2 → (get_or (a ∷ b ∷ []) r 0 ≢ g) × (get_or (a ∷ b ∷ []) r 0 ≢ next_generation g)
    of_pair g a b t zero small = (pair_free g a b t).0
    of_pair g a b t (suc zero) small = (pair_free g a b t).1
    of_pair g a b t (suc (suc r)) small = absurd (omega (arith, small))

pub unnamed_free : (names : List ℕ) (g : ℕ) → length names ≡ 2 → ((r : ℕ) → r < 2 → (get_or names r 0 ≢ g) × (get_or names r 0 ≢ next_generation g)) → is_free names g ≡ true
unnamed_free names g two =
    two_names (λ ns. ((r : ℕ) → r < 2 → (get_or ns r 0 ≢ g) × (get_or ns r 0 ≢ next_generation g)) → is_free ns g ≡ true) names two
    (λ a b off. free_pair g a b (off 0 (omega arith)) (off 1 (omega arith)))

-- nothing counts under it
pub free_counts_none : (regions : ℕ → List ℕ) (names : List ℕ) (g : ℕ) → length names ≡ 2 → is_free names g ≡ true → HeadersName regions names → counted_records g 0 regions ≡ []
free_counts_none regions names g two free named =
    let off = free_unnamed names g two free in
    let own : records_in regions g ≡ [] = other_counts_none regions names g named (off (g % 2) (turn_small g)).0 in
    let next : records_in regions (next_generation g) ≡ [] =
    other_counts_none regions names (next_generation g) named (off (next_generation g % 2) (turn_small (next_generation g))).1 in
    (λ k. drop 0 (own k) ++ next k)

-- both regions are stale under it
pub free_stale : (regions : ℕ → List ℕ) (names : List ℕ) (g : ℕ) → length names ≡ 2 → is_free names g ≡ true → HeadersName regions names → AreStale regions g
free_stale regions names g two free named r small =
    let off = free_unnamed names g two free r small in
    let is : get_or names r 0 ≡ generation (regions r) = sym (named r small) ∙ header_tells (regions r) in
    ((λ e. off.0 (is ∙ e)), (λ e. off.1 (is ∙ e)))

-- a name is at one of three generations two apart, at most
apart_2_4 : (g name : ℕ) → Hits (later 2 g) name → Hits (later 4 g) name → ⊥
apart_2_4 g name (inl a) (inl b) = omega arith
apart_2_4 g name (inl a) (inr b) = omega arith
apart_2_4 g name (inr a) (inl b) = omega arith
apart_2_4 g name (inr a) (inr b) = omega arith

apart_2_6 : (g name : ℕ) → Hits (later 2 g) name → Hits (later 6 g) name → ⊥
apart_2_6 g name (inl a) (inl b) = omega arith
apart_2_6 g name (inl a) (inr b) = omega arith
apart_2_6 g name (inr a) (inl b) = omega arith
apart_2_6 g name (inr a) (inr b) = omega arith

apart_4_6 : (g name : ℕ) → Hits (later 4 g) name → Hits (later 6 g) name → ⊥
apart_4_6 g name (inl a) (inl b) = omega arith
apart_4_6 g name (inl a) (inr b) = omega arith
apart_4_6 g name (inr a) (inl b) = omega arith
apart_4_6 g name (inr a) (inr b) = omega arith

missed : (g name : ℕ) → (Hits g name → ⊥) → Misses g name
missed g name none = ((λ is. none (inl is)), (λ is. none (inr is)))

-- two names leave one of the three free
pub third_free : (names : List ℕ) (g : ℕ) → length names ≡ 2 → is_free names (later 2 g) ≡ false → is_free names (later 4 g) ≡ false → is_free names (later 6 g) ≡ true
third_free names g two =
    two_names (λ ns. is_free ns (later 2 g) ≡ false → is_free ns (later 4 g) ≡ false → is_free ns (later 6 g) ≡ true) names two
    (λ a b second fourth. of_hits a b (pair_taken (later 2 g) a b second) (pair_taken (later 4 g) a b fourth))
  where
    of_hits : (a b : ℕ) → Hits (later 2 g) a ⊎ Hits (later 2 g) b → Hits (later 4 g) a ⊎ Hits (later 4 g) b → is_free (a ∷ b ∷ []) (later 6 g) ≡ true
    of_hits a b (inl h) (inl k) = absurd (apart_2_4 g a h k)
    of_hits a b (inl h) (inr k) = free_pair (later 6 g) a b (missed (later 6 g) a (apart_2_6 g a h)) (missed (later 6 g) b (apart_4_6 g b k))
    of_hits a b (inr h) (inl k) = free_pair (later 6 g) a b (missed (later 6 g) a (apart_4_6 g a k)) (missed (later 6 g) b (apart_2_6 g b h))
    of_hits a b (inr h) (inr k) = absurd (apart_2_4 g b h k)

-- ---- the first of the three

-- the answer is the first of the three that is free
abbrev pub IsFirstFree : List ℕ → ℕ → ℕ → Type 0
IsFirstFree names g x = find (is_free names) (later 2 g ∷ later 4 g ∷ later 6 g ∷ []) ≡ Some x

pub second_first : (names : List ℕ) (g : ℕ) → is_free names (later 2 g) ≡ true → IsFirstFree names g (later 2 g)
second_first names g t = cond-true (is_free names (later 2 g)) _ _ t

pub fourth_first : (names : List ℕ) (g : ℕ) → is_free names (later 2 g) ≡ false → is_free names (later 4 g) ≡ true → IsFirstFree names g (later 4 g)
fourth_first names g f t = cond-false (is_free names (later 2 g)) _ _ f ∙ cond-true (is_free names (later 4 g)) _ _ t

pub sixth_first : (names : List ℕ) (g : ℕ) → length names ≡ 2 → is_free names (later 2 g) ≡ false → is_free names (later 4 g) ≡ false → IsFirstFree names g (later 6 g)
sixth_first names g two f f' =
    cond-false (is_free names (later 2 g)) _ _ f ∙ cond-false (is_free names (later 4 g)) _ _ f' ∙ cond-true (is_free names (later 6 g)) _ _ (third_free names g two f f')

-- where the names are near, the second is free
near_misses : (g name : ℕ) → IsNear g name → Misses (later 2 g) name
near_misses g name (k, small, is) = ((λ e. omega arith), (λ e. omega arith))

pub near_free : (names : List ℕ) (g : ℕ) → length names ≡ 2 → ((r : ℕ) → r < 2 → IsNear g (get_or names r 0)) → is_free names (later 2 g) ≡ true
near_free names g two near = unnamed_free names (later 2 g) two (λ r small. near_misses g (get_or names r 0) (near r small))

-- what is found passes the test
found_passes : {X : Type 0} (p : X → Bool) (xs : List X) (x : X) → find p xs ≡ Some x → p x ≡ true
found_passes p [] x e = absurd cc
found_passes p (y ∷ ys) x e = elim (cases_Bool (p y)) [
  | inl t ↦ let same : Some y ≡ Some x = sym (cond-true (p y) (Some y) (find p ys) t) ∙ e in let is : y ≡ x = cc in subst (λ z. p z ≡ true) is t
  | inr f ↦ found_passes p ys x (sym (cond-false (p y) (Some y) (find p ys) f) ∙ e)
]

pub first_is_free : (names : List ℕ) (g x : ℕ) → IsFirstFree names g x → is_free names x ≡ true
first_is_free names g x first = found_passes (is_free names) (later 2 g ∷ later 4 g ∷ later 6 g ∷ []) x first

pub first_is_second : (names : List ℕ) (g x : ℕ) → IsFirstFree names g x → is_free names (later 2 g) ≡ true → x ≡ later 2 g
first_is_second names g x first t = let same : Some (later 2 g) ≡ Some x = sym (second_first names g t) ∙ first in cc
