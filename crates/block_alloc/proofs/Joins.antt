-- Runs that are put in and joined.
use Rattle.std.proofs.Common.{◌≡◌, ◌≤◌, ◌<◌, ◌⊎◌, inl, inr, ℕ, zero, suc, ◌+◌, List, [], ◌∷◌, ◌++◌, length, take, drop, get_or, set, sym, ap, ◌∙◌, refl, arith, subst, append_assoc, length-append, length-drop}
use Rattle.std.specs.List.{range_with_len, AllByRecursion}
use Rattle.std.proofs.lemmas.Bool.{cases_lt, cases_eq}
use Rattle.std.proofs.lemmas.List.{take_at, drop_at, set_at, get_or_at, drop_more, take_more, take-append-drop, length-take-le, set_split}
use Rattle.std.proofs.lemmas.List.Concat.{flat_map-append}
use Rattle.std.proofs.lemmas.List.FromFn.{length-range_with_len}
use Rattle.block_alloc.specs.declared.runs.Run.{Run}
use Rattle.block_alloc.specs.Runs.{run_blocks, blocks_of, AreNormalRuns, EndsBefore, Apart, PutIn, Seamed}
use Rattle.block_alloc.proofs.Blocks.{range-split, split_blocks, blocks-push}

-- ---- normal form, put together

pub normal-two : (low end : ℕ) (front : List Run) (r : Run) (rest : List Run) → AreNormalRuns low end (front ++ r ∷ []) → AreNormalRuns (r.first + r.count + 1) end rest → AreNormalRuns low end (front ++ r ∷ rest)
normal-two low end [] r rest is after = (is.0, is.1, is.2, after)
normal-two low end (x ∷ xs) r rest is after = (is.0, is.1, is.2, normal-two (x.first + x.count + 1) end xs r rest is.3 after)

pub last-replaced : (low end : ℕ) (front : List Run) (r j : Run) → AreNormalRuns low end (front ++ r ∷ []) → j.first ≡ r.first → 0 < j.count → j.first + j.count ≤ end → AreNormalRuns low end (front ++ j ∷ [])
last-replaced low end [] r j is same some within = (omega (arith, is.0, same), some, within, tt)
last-replaced low end (x ∷ xs) r j is same some within = (is.0, is.1, is.2, last-replaced (x.first + x.count + 1) end xs r j is.3 same some within)

pub last-within : (low end : ℕ) (front : List Run) (r : Run) → AreNormalRuns low end (front ++ r ∷ []) → (0 < r.count) × (r.first + r.count ≤ end) × (low ≤ r.first)
last-within low end [] r is = (is.1, is.2, is.0)
last-within low end (x ∷ xs) r is = let rest = last-within (x.first + x.count + 1) end xs r is.3 in (rest.0, rest.1, omega (arith, rest.2, is.0))

-- ---- a run and the next become one

removed : (front ts : List Run) (j t : Run) (place : ℕ) → length front ≡ place → take (place + 1) (front ++ j ∷ t ∷ ts) ++ drop (suc (place + 1)) (front ++ j ∷ t ∷ ts) ≡ front ++ j ∷ ts
removed front ts j t place at =
    let first_two : length (front ++ j ∷ t ∷ []) ≡ suc (place + 1) = omega (arith, length-append front (j ∷ t ∷ []), at) in
    let first_one : length (front ++ j ∷ []) ≡ place + 1 = omega (arith, length-append front (j ∷ []), at) in
    let before : take (place + 1) (front ++ j ∷ t ∷ ts) ≡ front ++ j ∷ [] = ap (take (place + 1)) (sym (append_assoc front (j ∷ []) (t ∷ ts))) ∙ take_at (front ++ j ∷ []) (t ∷ ts) (place + 1) first_one in
    let after : drop (suc (place + 1)) (front ++ j ∷ t ∷ ts) ≡ ts = ap (drop (suc (place + 1))) (sym (append_assoc front (j ∷ t ∷ []) ts)) ∙ drop_at (front ++ j ∷ t ∷ []) ts (suc (place + 1)) first_two in
    (λ i. before i ++ after i) ∙ append_assoc front (j ∷ []) ts

joined_blocks : (r t : Run) → r.first + r.count ≡ t.first → range_with_len r.first (r.count + t.count) ≡ run_blocks r ++ run_blocks t
joined_blocks r t touch = range-split r.first r.count t.count ∙ ap (λ a. run_blocks r ++ range_with_len a t.count) touch

blocks_around : (front rest : List Run) (r : Run) → blocks_of (front ++ r ∷ rest) ≡ blocks_of front ++ (run_blocks r ++ blocks_of rest)
blocks_around front rest r = flat_map-append run_blocks front (r ∷ rest)

-- what a seam is, with its two runs named
pub record Met (low end place : ℕ) (runs : List Run) (r t : Run) : Type 0 where
  pub front : List Run
  pub rest : List Run
  pub parts : runs ≡ front ++ r ∷ t ∷ rest
  pub place_is : length front ≡ place
  pub before : AreNormalRuns low end (front ++ r ∷ [])
  pub after : AreNormalRuns (r.first + r.count) end (t ∷ rest)

met_by : (low end place : ℕ) (runs front rest : List Run) (run r t : Run) → runs ≡ front ++ run ∷ rest → length front ≡ place → AreNormalRuns low end (front ++ run ∷ []) → AreNormalRuns (run.first + run.count) end rest → place + 1 < length runs → r ≡ get_or runs place r → t ≡ get_or runs (place + 1) t → Met low end place runs r t
met_by low end place runs front [] run r t parts at before after room is_r is_t = absurd (omega (arith, ap length parts, length-append front (run ∷ []), at, room))
met_by low end place runs front (x ∷ xs) run r t parts at before after room is_r is_t =
    let first : r ≡ run = is_r ∙ ap (λ l. get_or l place r) parts ∙ get_or_at front run (x ∷ xs) r place at in
    let long : length (front ++ run ∷ []) ≡ place + 1 = omega (arith, length-append front (run ∷ []), at) in
    let second : t ≡ x = is_t ∙ ap (λ l. get_or l (place + 1) t) (parts ∙ sym (append_assoc front (run ∷ []) (x ∷ xs))) ∙ get_or_at (front ++ run ∷ []) x xs t (place + 1) long in
    record {
      front = front;
      rest = xs;
      parts = parts ∙ sym (λ i. front ++ first i ∷ second i ∷ xs);
      place_is = at;
      before = subst (λ y. AreNormalRuns low end (front ++ y ∷ [])) (sym first) before;
      after = subst (λ y. AreNormalRuns (y.first + y.count) end (t ∷ xs)) (sym first) (subst (λ y. AreNormalRuns (run.first + run.count) end (y ∷ xs)) (sym second) after);
    }

pub met : (low end place : ℕ) (runs : List Run) (r t : Run) → Seamed low end place runs → place + 1 < length runs → r ≡ get_or runs place r → t ≡ get_or runs (place + 1) t → Met low end place runs r t
met low end place runs r t seam room is_r is_t = met_by low end place runs seam.front seam.rest seam.run r t seam.parts seam.place_is seam.before seam.after room is_r is_t

-- they do not touch: nothing is to be done
pub apart_normal : (low end place : ℕ) (runs : List Run) (r t : Run) → Met low end place runs r t → (r.first + r.count ≡ t.first → ⊥) → AreNormalRuns low end runs
apart_normal low end place runs r t m apart =
    let gap : r.first + r.count + 1 ≤ t.first = elim (cases_lt (r.first + r.count) t.first) [ inl below ↦ omega (arith, below) | inr past ↦ absurd (apart (omega (arith, past, m.after.0))) ] in
    subst (AreNormalRuns low end) (sym m.parts) (normal-two low end m.front r (t ∷ m.rest) m.before (gap, m.after.1, m.after.2, m.after.3))

joined_list : (low end place : ℕ) (runs new : List Run) (r t j : Run) (m : Met low end place runs r t) → new ≡ take (place + 1) (set runs place j) ++ drop (suc (place + 1)) (set runs place j) → new ≡ m.front ++ j ∷ m.rest
joined_list low end place runs new r t j m is =
    let changed : set runs place j ≡ m.front ++ j ∷ t ∷ m.rest = ap (λ l. set l place j) m.parts ∙ set_at m.front r (t ∷ m.rest) j place m.place_is in
    is ∙ ap (λ l. take (place + 1) l ++ drop (suc (place + 1)) l) changed ∙ removed m.front m.rest j t place m.place_is

pub joined_same_blocks : (low end place : ℕ) (runs new : List Run) (r t : Run) → Met low end place runs r t → r.first + r.count ≡ t.first → new ≡ take (place + 1) (set runs place (record { first = r.first; count = r.count + t.count })) ++ drop (suc (place + 1)) (set runs place (record { first = r.first; count = r.count + t.count })) → blocks_of new ≡ blocks_of runs
joined_same_blocks low end place runs new r t m touch is =
    let j : Run = record { first = r.first; count = r.count + t.count } in
    ap blocks_of (joined_list low end place runs new r t j m is) ∙ blocks_around m.front m.rest j
    ∙ ap (λ xs. blocks_of m.front ++ (xs ++ blocks_of m.rest)) (joined_blocks r t touch)
    ∙ ap (λ xs. blocks_of m.front ++ xs) (append_assoc (run_blocks r) (run_blocks t) (blocks_of m.rest))
    ∙ sym (blocks_around m.front (t ∷ m.rest) r) ∙ ap blocks_of (sym m.parts)

pub joined_normal : (low end place : ℕ) (runs new : List Run) (r t : Run) → Met low end place runs r t → r.first + r.count ≡ t.first → new ≡ take (place + 1) (set runs place (record { first = r.first; count = r.count + t.count })) ++ drop (suc (place + 1)) (set runs place (record { first = r.first; count = r.count + t.count })) → AreNormalRuns low end new
joined_normal low end place runs new r t m touch is =
    let j : Run = record { first = r.first; count = r.count + t.count } in
    let last = last-within low end m.front r m.before in
    let ends : t.first + t.count + 1 ≡ r.first + (r.count + t.count) + 1 = omega (arith, touch) in
    let before = last-replaced low end m.front r j m.before refl (omega (arith, last.0)) (omega (arith, m.after.2, touch)) in
    subst (AreNormalRuns low end) (sym (joined_list low end place runs new r t j m is)) (normal-two low end m.front j m.rest before (subst (λ n. AreNormalRuns n end m.rest) ends m.after.3))

-- ---- a run that is put in

all_left : {X : Type 0} (P : X → Type 0) (xs ys : List X) → AllByRecursion P (xs ++ ys) → AllByRecursion P xs
all_left P [] ys all = tt
all_left P (x ∷ xs) ys all = (all.0, all_left P xs ys all.1)

all_right : {X : Type 0} (P : X → Type 0) (xs ys : List X) → AllByRecursion P (xs ++ ys) → AllByRecursion P ys
all_right P [] ys all = all
all_right P (x ∷ xs) ys all = all_right P xs ys all.1

-- a block of a range
all_in_range : (P : ℕ → Type 0) (a c k : ℕ) → AllByRecursion P (range_with_len a c) → a ≤ k → k < a + c → P k
all_in_range P a zero k all low high = absurd (omega (arith, low, high))
all_in_range P a (suc c) k all low high =
    elim (cases_eq a k) [ inl same ↦ subst P same all.0 | inr other ↦ all_in_range P (a + 1) c k all.1 (omega (arith, low, other)) (omega (arith, high)) ]

-- two runs with no block in common: one ends before the other begins
apart_runs : (run s : Run) → 0 < run.count → 0 < s.count → Apart run (run_blocks s) → (s.first + s.count ≤ run.first) ⊎ (run.first + run.count ≤ s.first)
apart_runs run s some some_s apart =
    elim (cases_lt s.first run.first) [
      | inl before ↦ elim (cases_lt run.first (s.first + s.count)) [
        | inl within ↦ elim (all_in_range (λ k. (k < run.first) ⊎ (run.first + run.count ≤ k)) s.first s.count run.first apart (omega (arith, before)) within) [ inl h ↦ absurd (omega (arith, h)) | inr h ↦ absurd (omega (arith, h, some)) ]
        | inr past ↦ inl past
      ]
      | inr after ↦ elim (all_in_range (λ k. (k < run.first) ⊎ (run.first + run.count ≤ k)) s.first s.count s.first apart (omega arith) (omega (arith, some_s))) [ inl h ↦ absurd (omega (arith, h, after)) | inr h ↦ inr h ]
    ]

apart_front : (run : Run) (front rest : List Run) (s : Run) → Apart run (blocks_of (front ++ s ∷ rest)) → Apart run (run_blocks s) × Apart run (blocks_of rest)
apart_front run front rest s apart =
    let P : ℕ → Type 0 = λ k. (k < run.first) ⊎ (run.first + run.count ≤ k) in
    let tail = all_right P (blocks_of front) (run_blocks s ++ blocks_of rest) (subst (AllByRecursion P) (flat_map-append run_blocks front (s ∷ rest)) apart) in
    (all_left P (run_blocks s) (blocks_of rest) tail, all_right P (run_blocks s) (blocks_of rest) tail)

pub normal_tail : (low end : ℕ) (front rest : List Run) (s : Run) → AreNormalRuns low end (front ++ s ∷ rest) → AreNormalRuns low end (front ++ s ∷ []) × AreNormalRuns (s.first + s.count + 1) end rest
normal_tail low end [] rest s is = ((is.0, is.1, is.2, tt), is.3)
normal_tail low end (x ∷ xs) rest s is = let t = normal_tail (x.first + x.count + 1) end xs rest s is.3 in ((is.0, is.1, is.2, t.0), t.1)

pub normal_front : (low end : ℕ) (front rest : List Run) → AreNormalRuns low end (front ++ rest) → AreNormalRuns low end front
normal_front low end [] rest is = tt
normal_front low end (x ∷ xs) rest is = (is.0, is.1, is.2, normal_front (x.first + x.count + 1) end xs rest is.3)

normal_rest : (low end f : ℕ) (front rest : List Run) → low ≤ f → EndsBefore f front → AreNormalRuns low end (front ++ rest) → ((s : Run) (ss : List Run) → rest ≡ s ∷ ss → f ≤ s.first) → AreNormalRuns f end rest
normal_rest low end f front [] below before is late = tt
normal_rest low end f front (s ∷ ss) below before is late = let t = normal_tail low end front ss s is in let w = last-within low end front s t.0 in (late s ss refl, w.0, w.1, t.1)

pub put_in_parts : (old new a piece c : List ℕ) → old ≡ a ++ c → new ≡ a ++ piece ++ c → PutIn old piece new
put_in_parts old new a piece c is_old is_new = (
  length a,
  is_new ∙ sym (λ i. (ap (take (length a)) is_old ∙ take_at a c (length a) refl) i ++ piece ++ (ap (drop (length a)) is_old ∙ drop_at a c (length a) refl) i),
)

-- the run goes in as one of its own
pub inserted_blocks : (runs : List Run) (place : ℕ) (run : Run) → PutIn (blocks_of runs) (run_blocks run) (blocks_of (take place runs ++ run ∷ drop place runs))
inserted_blocks runs place run =
    put_in_parts (blocks_of runs) _ (blocks_of (take place runs)) (run_blocks run) (blocks_of (drop place runs)) (split_blocks runs place)
    (flat_map-append run_blocks (take place runs) (run ∷ drop place runs) ∙ sym (append_assoc (blocks_of (take place runs)) (run_blocks run) (blocks_of (drop place runs))))

normal_pushed : (low end : ℕ) (front : List Run) (run : Run) → AreNormalRuns low end front → EndsBefore run.first front → low ≤ run.first → 0 < run.count → run.first + run.count ≤ end → AreNormalRuns low end (front ++ run ∷ [])
normal_pushed low end [] run is before above some within = (above, some, within, tt)
normal_pushed low end (r ∷ rs) run is before above some within = (is.0, is.1, is.2, normal_pushed (r.first + r.count + 1) end rs run is.3 before.1 (omega (arith, before.0)) some within)

late_rest : (low end : ℕ) (run : Run) (front rest : List Run) → 0 < run.count → low ≤ run.first → AreNormalRuns low end (front ++ rest) → EndsBefore run.first front → Apart run (blocks_of (front ++ rest)) → ((s : Run) (ss : List Run) → rest ≡ s ∷ ss → run.first ≤ s.first) → AreNormalRuns (run.first + run.count) end rest
late_rest low end run front [] some above is before apart late = tt
late_rest low end run front (s ∷ ss) some above is before apart late =
    let t = normal_tail low end front ss s is in
    let w = last-within low end front s t.0 in
    let behind : run.first + run.count ≤ s.first = elim (apart_runs run s some w.0 (apart_front run front ss s apart).0) [ inl h ↦ absurd (omega (arith, h, w.0, late s ss refl)) | inr h ↦ h ] in
    (behind, w.0, w.1, t.1)

head_of : (runs : List Run) (place : ℕ) (s : Run) (ss : List Run) (d : Run) → drop place runs ≡ s ∷ ss → place < length runs → get_or runs place d ≡ s
head_of runs place s ss d is below = ap (λ l. get_or l 0 d) (sym (drop_more runs place d below) ∙ is)

pub inserted_seam : (low end : ℕ) (runs : List Run) (place : ℕ) (run : Run) → place ≤ length runs → 0 < run.count → low ≤ run.first → run.first + run.count ≤ end → AreNormalRuns low end runs → EndsBefore run.first (take place runs) → Apart run (blocks_of runs)
    → ((d : Run) → place < length runs → run.first ≤ (get_or runs place d).first) → Seamed low end place (take place runs ++ run ∷ drop place runs)
inserted_seam low end runs place run within some above fits is before apart late =
    let whole : runs ≡ take place runs ++ drop place runs = sym (take-append-drop place runs) in
    let parts = subst (AreNormalRuns low end) whole is in
    let later : (s : Run) (ss : List Run) → drop place runs ≡ s ∷ ss → run.first ≤ s.first = λ s ss e. let below : place < length runs = place_within runs place s ss e in subst (λ x. run.first ≤ x.first) (head_of runs place s ss run e below) (late run below) in
    record {
      front = take place runs;
      run = run;
      rest = drop place runs;
      parts = refl;
      place_is = length-take-le place runs within;
      before = normal_pushed low end (take place runs) run (normal_front low end (take place runs) (drop place runs) parts) before above some fits;
      after = late_rest low end run (take place runs) (drop place runs) some above parts before (subst (λ l. Apart run (blocks_of l)) whole apart) later;
    }
  where
    place_within : (runs : List Run) (place : ℕ) (s : Run) (ss : List Run) → drop place runs ≡ s ∷ ss → place < length runs
    place_within runs place s ss e = omega (arith, ap length e, length-drop place runs)

-- the run goes behind the one that ends where it begins
grown_list : (runs : List Run) (place : ℕ) (s j : Run) → place < length runs → set runs place j ≡ take place runs ++ j ∷ drop (suc place) runs
grown_list runs place s j below = set_split runs place j below

split_at : (runs : List Run) (place : ℕ) (s : Run) → place < length runs → s ≡ get_or runs place s → runs ≡ take place runs ++ s ∷ drop (place + 1) runs
split_at runs place s below is = sym (take-append-drop place runs) ∙ ap (λ l. take place runs ++ l) (drop_more runs place s below ∙ ap (λ x. x ∷ drop (place + 1) runs) (sym is))

set_at_place : (runs : List Run) (place : ℕ) (s j : Run) → place < length runs → s ≡ get_or runs place s → set runs place j ≡ take place runs ++ j ∷ drop (place + 1) runs
set_at_place runs place s j below is = ap (λ l. set l place j) (split_at runs place s below is) ∙ set_at (take place runs) s (drop (place + 1) runs) j place (length-take-le place runs (omega (arith, below)))

-- it begins where that one ends
pub touches : (low end : ℕ) (runs : List Run) (place : ℕ) (run s : Run) → place < length runs → s ≡ get_or runs place s → 0 < run.count → AreNormalRuns low end runs → Apart run (blocks_of runs) → s.first < run.first → run.first ≤ s.first + s.count → s.first + s.count ≡ run.first
touches low end runs place run s below is some normal apart starts ends =
    let parts = split_at runs place s below is in
    let t = normal_tail low end (take place runs) (drop (place + 1) runs) s (subst (AreNormalRuns low end) parts normal) in
    let w = last-within low end (take place runs) s t.0 in
    elim (apart_runs run s some w.0 (apart_front run (take place runs) (drop (place + 1) runs) s (subst (λ l. Apart run (blocks_of l)) parts apart)).0) [ inl h ↦ omega (arith, h, ends) | inr h ↦ absurd (omega (arith, h, starts)) ]

pub grown_blocks : (runs : List Run) (place : ℕ) (run s : Run) → place < length runs → s ≡ get_or runs place s → s.first + s.count ≡ run.first → PutIn (blocks_of runs) (run_blocks run) (blocks_of (set runs place (record { first = s.first; count = s.count + run.count })))
grown_blocks runs place run s below is touch =
    let j : Run = record { first = s.first; count = s.count + run.count } in
    let front = take place runs in
    let rest = drop (place + 1) runs in
    put_in_parts (blocks_of runs) _ (blocks_of front ++ run_blocks s) (run_blocks run) (blocks_of rest)
    (ap blocks_of (split_at runs place s below is) ∙ blocks_around front rest s ∙ sym (append_assoc (blocks_of front) (run_blocks s) (blocks_of rest)))
    (ap blocks_of (set_at_place runs place s j below is) ∙ blocks_around front rest j ∙ ap (λ xs. blocks_of front ++ (xs ++ blocks_of rest)) (joined_blocks s run touch)
    ∙ sym (append_assoc (blocks_of front) (run_blocks s ++ run_blocks run) (blocks_of rest)) ∙ ap (λ xs. xs ++ blocks_of rest) (sym (append_assoc (blocks_of front) (run_blocks s) (run_blocks run))))

pub grown_seam : (low end : ℕ) (runs : List Run) (place : ℕ) (run s : Run) → place < length runs → s ≡ get_or runs place s → 0 < run.count → run.first + run.count ≤ end → AreNormalRuns low end runs → Apart run (blocks_of runs) → s.first + s.count ≡ run.first
    → Seamed low end place (set runs place (record { first = s.first; count = s.count + run.count }))
grown_seam low end runs place run s below is some fits normal apart touch =
    let j : Run = record { first = s.first; count = s.count + run.count } in
    let front = take place runs in
    let rest = drop (place + 1) runs in
    let parts = split_at runs place s below is in
    let t = normal_tail low end front rest s (subst (AreNormalRuns low end) parts normal) in
    let sum : run.first + run.count ≡ s.first + (s.count + run.count) = omega (arith, touch) in
    record {
      front = front;
      run = j;
      rest = rest;
      parts = set_at_place runs place s j below is;
      place_is = length-take-le place runs (omega (arith, below));
      before = last-replaced low end front s j t.0 refl (omega (arith, some)) (omega (arith, fits, touch));
      after = subst (λ n. AreNormalRuns n end rest) sum (behind low end run s rest some touch t.1 (apart_front run front rest s (subst (λ l. Apart run (blocks_of l)) parts apart)).1);
    }
  where
    behind : (low end : ℕ) (run s : Run) (rest : List Run) → 0 < run.count → s.first + s.count ≡ run.first → AreNormalRuns (s.first + s.count + 1) end rest → Apart run (blocks_of rest) → AreNormalRuns (run.first + run.count) end rest
    behind low end run s [] some touch is apart = tt
    behind low end run s (t ∷ ts) some touch is apart =
        let P : ℕ → Type 0 = λ k. (k < run.first) ⊎ (run.first + run.count ≤ k) in
        let late : run.first + run.count ≤ t.first = elim (apart_runs run t some is.1 (all_left P (run_blocks t) (blocks_of ts) apart)) [ inl h ↦ absurd (omega (arith, h, is.0, touch)) | inr h ↦ h ] in
        (late, is.1, is.2, is.3)

pub normal-at : (low end i : ℕ) (runs : List Run) (r : Run) → AreNormalRuns low end runs → i < length runs → (get_or runs i r).first + (get_or runs i r).count ≤ end
normal-at low end i [] r is below = absurd (omega (arith, below))
normal-at low end zero (x ∷ xs) r is below = is.2
normal-at low end (suc i) (x ∷ xs) r is below = normal-at (x.first + x.count + 1) end i xs r is.3 (omega (arith, below))

pub normal-wider : (low end low' end' : ℕ) (runs : List Run) → low' ≤ low → end ≤ end' → AreNormalRuns low end runs → AreNormalRuns low' end' runs
normal-wider low end low' end' [] below above is = tt
normal-wider low end low' end' (r ∷ rs) below above is = (omega (arith, below, is.0), is.1, omega (arith, above, is.2), normal-wider (r.first + r.count + 1) end (r.first + r.count + 1) end' rs (omega arith) above is.3)

pub length-put_in : (old piece new : List ℕ) → PutIn old piece new → length new ≡ length old + length piece
length-put_in old piece new is =
    let n = is.0 in
    omega (arith, ap length is.1, length-append (take n old ++ piece) (drop n old), length-append (take n old) piece, ap length (take-append-drop n old), length-append (take n old) (drop n old))

pub length-run : (r : Run) → length (run_blocks r) ≡ r.count
length-run r = length-range_with_len r.first r.count

-- ---- a run apart from others

pub all_append : {X : Type 0} (P : X → Type 0) (xs ys : List X) → AllByRecursion P xs → AllByRecursion P ys → AllByRecursion P (xs ++ ys)
all_append P [] ys all_x all_y = all_y
all_append P (x ∷ xs) ys all_x all_y = (all_x.0, all_append P xs ys all_x.1 all_y)

all_of_range : (P : ℕ → Type 0) (a c : ℕ) → ((k : ℕ) → a ≤ k → k < a + c → P k) → AllByRecursion P (range_with_len a c)
all_of_range P a zero each = tt
all_of_range P a (suc c) each = (each a (omega arith) (omega arith), all_of_range P (a + 1) c (λ k low high. each k (omega (arith, low)) (omega (arith, high))))

pub apart_one : (run s : Run) → ((s.first < run.first + run.count) × (run.first < s.first + s.count) → ⊥) → Apart run (run_blocks s)
apart_one run s disjoint =
    all_of_range (λ k. (k < run.first) ⊎ (run.first + run.count ≤ k)) s.first s.count (λ k low high.
    elim (cases_lt k run.first) [
      | inl before ↦ inl before
      | inr after ↦ elim (cases_lt k (run.first + run.count)) [ inl within ↦ absurd (disjoint (omega (arith, low, within), omega (arith, after, high))) | inr past ↦ inr past ]
    ])

pub apart_more : (run : Run) (runs : List Run) (i : ℕ) (d : Run) → i < length runs → Apart run (blocks_of (take i runs)) → Apart run (run_blocks (get_or runs i d)) → Apart run (blocks_of (take (i + 1) runs))
apart_more run runs i d below before next =
    let P : ℕ → Type 0 = λ k. (k < run.first) ⊎ (run.first + run.count ≤ k) in
    subst (AllByRecursion P) (sym (ap blocks_of (take_more runs i d below) ∙ blocks-push (take i runs) (get_or runs i d))) (all_append P (blocks_of (take i runs)) (run_blocks (get_or runs i d)) before next)

pub overlap_refused : (low end : ℕ) (run : Run) (runs : List Run) (i : ℕ) (d : Run) → 0 < run.count → AreNormalRuns low end runs → i < length runs → ((get_or runs i d).first < run.first + run.count) × (run.first < (get_or runs i d).first + (get_or runs i d).count) → Apart run (blocks_of runs) → ⊥
overlap_refused low end run [] i d some normal below meet apart = omega (arith, below)
overlap_refused low end run (s ∷ ss) zero d some normal below meet apart =
    elim (apart_runs run s some normal.1 (apart_front run [] ss s apart).0) [ inl h ↦ omega (arith, h, meet.1) | inr h ↦ omega (arith, h, meet.0) ]
overlap_refused low end run (s ∷ ss) (suc i) d some normal below meet apart =
    overlap_refused (s.first + s.count + 1) end run ss i d some normal.3 (omega (arith, below)) meet (apart_front run [] ss s apart).1
