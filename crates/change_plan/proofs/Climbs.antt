-- Numbers that climb, and the changes of inodes in the order of their numbers.
use Rattle.std.proofs.Common.{◌≡◌, ◌≤◌, ◌<◌, ◌+◌, ◌∙◌, inl, inr, ℕ, List, [], ◌∷◌, ◌++◌, length, map, Bool, true, false, T, Some, refl, sym, ap, subst, arith}
use Rattle.std.specs.Prelude.{is_some, unwrap_or}
use Rattle.std.specs.List.{Contains, AllByRecursion}
use Rattle.std.specs.List.Sorted.{IsStrictlySortedBy}
use Rattle.std.specs.Ordering.{nat_cmp, is_lt, eq_by_cmp}
use Rattle.std.specs.declared.cmp.Ordering.{Ordering}
use Rattle.std.specs.declared.cmp.Ordering.TheVariants.{Less, Equal, Greater}
use Rattle.std.specs.Cmp.{nat_cmp_total, unsigned_tied, ranked}
use Rattle.std.specs.Map.{keys_of}
use Rattle.std.specs.FinMap as fin
use Rattle.std.specs.FinMap.Entries.{by_order, below_all}
use Rattle.std.proofs.lemmas.Bool.{and_parts, cond-true, cond-false, ne_eqb, eq-eqb, false≢true}
use Rattle.std.proofs.lemmas.List.Elements.{Contains-append_right}
use Rattle.block_alloc.specs.Runs.{Rising}
use Rattle.inode_plan.proofs.area_commit_lemmas.Members.{cons_cases, cons_here, cons_there, nothing}
use Rattle.inode_plan.specs.graph_change.Change.{Change, Changes, new_change, change_at}
use Rattle.inode_plan.specs.graph_change.Net.{Kept}
use Rattle.inode_plan.specs.graph_change.View.{map_of}

-- ---- numbers

-- The numbers rise strictly, from low on.
abbrev pub Climb : ℕ → List ℕ → Type 0
Climb low [] = Unit {0}
Climb low (k ∷ ks) = (low ≤ k) × Climb (k + 1) ks

pub climb_rising : (low end : ℕ) (ks : List ℕ) → Rising low end ks → Climb low ks
climb_rising low end [] rising = tt
climb_rising low end (k ∷ ks) rising = (rising.0, climb_rising (k + 1) end ks rising.2)

pub climb_low : (low : ℕ) (ks : List ℕ) (k : ℕ) → Climb low ks → Contains ks k → low ≤ k
climb_low low [] k climb at = absurd (nothing k at)
climb_low low (x ∷ xs) k climb at = elim (cons_cases x xs k at) [
  | inl here ↦ omega (arith, here, climb.0)
  | inr there ↦ (let later = climb_low (x + 1) xs k climb.1 there in omega (arith, later, climb.0))
]

-- those before a number are less
pub climb_before : (low : ℕ) (xs : List ℕ) (y : ℕ) (ys : List ℕ) → Climb low (xs ++ y ∷ ys) → (k : ℕ) → Contains xs k → k < y
climb_before low [] y ys climb k at = absurd (nothing k at)
climb_before low (x ∷ xs) y ys climb k at = elim (cons_cases x xs k at) [
  | inl here ↦ (let past = climb_low (x + 1) (xs ++ y ∷ ys) y climb.1 (Contains-append_right xs (y ∷ ys) y (cons_here y ys y refl)) in omega (arith, here, past))
  | inr there ↦ climb_before (x + 1) xs y ys climb.1 k there
]

-- there are no more of them than numbers below the end
pub climb_few : (low : ℕ) (ks : List ℕ) (end : ℕ) → Climb low ks → low ≤ end → ((k : ℕ) → Contains ks k → k < end) → low + length ks ≤ end
climb_few low [] end climb le below = omega (arith, le)
climb_few low (k ∷ ks) end climb le below =
    let here : k < end = below k (cons_here k ks k refl) in
    let rest = climb_few (k + 1) ks end climb.1 (omega (arith, here)) (λ j at. below j (cons_there k ks j at)) in
    omega (arith, rest, climb.0)

-- those that are all among others are no more
pub climb_within : (low bottom : ℕ) (xs ys : List ℕ) → Climb low xs → Climb bottom ys → ((k : ℕ) → Contains xs k → Contains ys k) → length xs ≤ length ys
climb_within low bottom [] ys one two within = omega arith
climb_within low bottom (x ∷ xs) [] one two within = absurd (nothing x (within x (cons_here x xs x refl)))
climb_within low bottom (x ∷ xs) (y ∷ ys) one two within = elim (cons_cases y ys x (within x (cons_here x xs x refl))) [
  | inl here ↦
      let rest = climb_within (x + 1) (y + 1) xs ys one.1 two.1 (λ k at. elim (cons_cases y ys k (within k (cons_there x xs k at))) [
        | inl same ↦ absurd (let past = climb_low (x + 1) xs k one.1 at in omega (arith, past, here, same))
        | inr there ↦ there
      ]) in
      omega (arith, rest)
  | inr later ↦
      let above = climb_low (y + 1) ys x two.1 later in
      let rest = climb_within x (y + 1) (x ∷ xs) ys (omega arith, one.1) two.1 (λ k at. elim (cons_cases y ys k (within k at)) [
        | inl same ↦ absurd (let from = climb_low x (x ∷ xs) k (omega arith, one.1) at in omega (arith, from, above, same))
        | inr there ↦ there
      ]) in
      omega (arith, rest)
]

-- ---- what is among mapped values

pub mapped_in : {A B : Type 0} (f : A → B) (xs : List A) (x : A) → Contains xs x → Contains (map f xs) (f x)
mapped_in f [] x at = absurd (nothing x at)
mapped_in f (y ∷ ys) x at = elim (cons_cases y ys x at) [
  | inl here ↦ cons_here (f y) (map f ys) (f x) (ap f here)
  | inr there ↦ cons_there (f y) (map f ys) (f x) (mapped_in f ys x there)
]

pub mapped_from : {A B : Type 0} (f : A → B) (xs : List A) (y : B) → Contains (map f xs) y → (x : A) × Contains xs x × (f x ≡ y)
mapped_from f [] y at = absurd (nothing y at)
mapped_from f (x ∷ xs) y at = elim (cons_cases (f x) (map f xs) y at) [
  | inl here ↦ (x, cons_here x xs x refl, here)
  | inr there ↦ (let r = mapped_from f xs y there in (r.0, cons_there x xs r.0 r.1, r.2))
]

-- ---- the numbers of a finite map

holds : (b : Bool) → T b → b ≡ true
holds true h = refl
holds false h = absurd h

is_less : (o : Ordering) → is_lt o ≡ true → o ≡ Less
is_less Less e = refl
is_less Equal e = absurd (false≢true e)
is_less Greater e = absurd (false≢true e)

above : {X : Type 0} (low : ℕ) (es : List (ℕ × X)) → below_all nat_cmp low es ≡ true → (k : ℕ) → Contains (map (λ e. e.0) es) k → low + 1 ≤ k
above low [] below k at = absurd (nothing k at)
above low (e ∷ es) below k at =
    let both = and_parts (is_lt (nat_cmp low e.0)) (below_all nat_cmp low es) below in
    elim (cons_cases e.0 (map (λ x. x.0) es) k at) [
      | inl here ↦ (let less : low < e.0 = ranked low e.0 Less (sym (is_less (nat_cmp low e.0) both.0)) in omega (arith, less, here))
      | inr there ↦ above low es both.1 k there
    ]

climb_sorted : {X : Type 0} (low : ℕ) (es : List (ℕ × X)) → fin.is_sorted nat_cmp es ≡ true → ((k : ℕ) → Contains (map (λ e. e.0) es) k → low ≤ k) → Climb low (map (λ e. e.0) es)
climb_sorted low [] sorted from = tt
climb_sorted low (e ∷ es) sorted from =
    let both = and_parts (below_all nat_cmp e.0 es) (fin.is_sorted nat_cmp es) sorted in
    (from e.0 (cons_here e.0 (map (λ x. x.0) es) e.0 refl), climb_sorted (e.0 + 1) es both.1 (above e.0 es both.0))

pub keys_climb : (cs : Changes) → Climb 0 (fin.keys cs)
keys_climb cs = climb_sorted 0 (fin.entries cs) (holds (fin.is_sorted nat_cmp (fin.entries cs)) (fin.entries_sorted cs)) (λ k at. omega arith)

found_at : (low : ℕ) (es : List (ℕ × Change)) → Climb low (map (λ e. e.0) es) → (e : ℕ × Change) → Contains es e → fin.find nat_cmp e.0 es ≡ Some e.1
found_at low [] climb e at = absurd (nothing e at)
found_at low (x ∷ xs) climb e at = elim (cons_cases x xs e at) [
  | inl here ↦
      cond-true (eq_by_cmp nat_cmp e.0 x.0) (Some x.1) (fin.find nat_cmp e.0 xs) (unsigned_tied e.0 x.0 ∙ eq-eqb e.0 x.0 (ap (λ (y : ℕ × Change). y.0) (sym here)))
      ∙ ap (λ (y : ℕ × Change). Some y.1) here
  | inr there ↦
      let past : x.0 + 1 ≤ e.0 = climb_low (x.0 + 1) (map (λ y. y.0) xs) e.0 climb.1 (mapped_in (λ (y : ℕ × Change). y.0) xs e there) in
      cond-false (eq_by_cmp nat_cmp e.0 x.0) (Some x.1) (fin.find nat_cmp e.0 xs) (unsigned_tied e.0 x.0 ∙ ne_eqb e.0 x.0 (λ same. omega (arith, same, past)))
      ∙ found_at (x.0 + 1) xs climb.1 e there
]

-- the change of an inode is the one that stands beside its number
pub entry_at : (cs : Changes) (e : ℕ × Change) → Contains (fin.entries cs) e → fin.get cs e.0 ≡ Some e.1
entry_at cs e at = fin.get-entries cs e.0 ∙ found_at 0 (fin.entries cs) (keys_climb cs) e at

pub change_here : (cs : Changes) (e : ℕ × Change) → Contains (fin.entries cs) e → change_at cs e.0 ≡ e.1
change_here cs e at = ap (λ o. unwrap_or o (new_change Kept)) (entry_at cs e at)

pub has_here : (cs : Changes) (e : ℕ × Change) → Contains (fin.entries cs) e → fin.contains_key cs e.0 ≡ true
has_here cs e at = ap is_some (entry_at cs e at)

pub key_has : (cs : Changes) (k : ℕ) → Contains (fin.keys cs) k → fin.contains_key cs k ≡ true
key_has cs k at = let r = mapped_from (λ (e : ℕ × Change). e.0) (fin.entries cs) k at in subst (λ (j : ℕ). fin.contains_key cs j ≡ true) r.2 (has_here cs r.0 r.1)

-- ---- a map in memory

nothing_in : {A : Type 0} (xs : List A) → length xs ≡ 0 → xs ≡ []
nothing_in [] is = refl
nothing_in (x ∷ xs) is = absurd (omega (arith, is))

-- entries with what their values say
abbrev pub seen_as : {X Y : Type 0} → (X → Y) → List (ℕ × X) → List (ℕ × Y)
seen_as f es = map (λ e. (e.0, f e.1)) es

put_first : {X Y : Type 0} (f : X → Y) (k : ℕ) (v : Y) (es : List (ℕ × X)) → AllByRecursion (λ y. nat_cmp k y ≡ Less) (keys_of es) → fin.put nat_cmp k v (seen_as f es) ≡ (k, v) ∷ seen_as f es
put_first f k v [] all = refl
put_first f k v (e ∷ es) all = ap (λ (o : Ordering). by_order o ((k, v) ∷ (e.0, f e.1) ∷ seen_as f es) ((e.0, v) ∷ seen_as f es) ((e.0, f e.1) ∷ fin.put nat_cmp k v (seen_as f es))) all.0

-- the entries of a map in memory, in their order
pub entries_seen : {X Y : Type 0} (f : X → Y) (es : List (ℕ × X)) → IsStrictlySortedBy nat_cmp (keys_of es) → fin.entries (map_of f es) ≡ seen_as f es
unfolding IsStrictlySortedBy
entries_seen {Y = Y} f [] sorted = nothing_in (fin.entries (fin.empty {X = Y} {R = nat_cmp})) (sym (fin.len-entries (fin.empty {X = Y} {R = nat_cmp})) ∙ fin.len-empty nat_cmp Y)
entries_seen f (e ∷ es) sorted =
    fin.entries-insert nat_cmp_total (map_of f es) e.0 (f e.1)
    ∙ ap (fin.put nat_cmp e.0 (f e.1)) (entries_seen f es sorted.1)
    ∙ put_first f e.0 (f e.1) es sorted.0

-- one that is not empty has a key
pub some_key : {X : Type 0} (f : X → Change) (es : List (ℕ × X)) → IsStrictlySortedBy nat_cmp (keys_of es) → (length es ≡ 0 → ⊥) → (i : ℕ) × (fin.contains_key (map_of f es) i ≡ true)
some_key f [] sorted some = absurd (some refl)
some_key f (e ∷ es) sorted some = (e.0, has_here (map_of f (e ∷ es)) (e.0, f e.1) (subst (λ zs. Contains zs (e.0, f e.1)) (sym (entries_seen f (e ∷ es) sorted)) (cons_here (e.0, f e.1) (seen_as f es) (e.0, f e.1) refl)))
