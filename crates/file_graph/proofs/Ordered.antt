-- The place of a name among entries in order, and what an edit at that place makes of them.
use Rattle.std.proofs.Common.{◌≡◌, ℕ, zero, suc, ◌+◌, ◌<◌, ◌≤◌, List, [], ◌∷◌, ◌++◌, length, get_or, set, take, drop, Some, None, Result, Ok, Err, refl, sym, ap, subst, ◌∙◌, Bool, true, false, T, cond, not, ◌&&◌, arith}
use Rattle.std.proofs.lemmas.List.{length-map}
use Rattle.std.specs.Ordering.{nat_cmp, is_eq, is_lt, ordering_reverse}
use Rattle.std.specs.Cmp.Lexicographic.{slice_cmp, nat_list_cmp_total}
use Rattle.std.specs.declared.cmp.Ordering.{Ordering}
use Rattle.std.specs.declared.cmp.Ordering.TheVariants.{Less, Equal, Greater}
use Rattle.std.specs.FinMap as fin
use Rattle.std.specs.FinMap.Entries.{by_order, below_all}
use Rattle.std.specs.List.{insert, remove}
use Rattle.std.specs.List.Sorted.{IsSortedBy}
use Rattle.posix_calls.specs.Content.{Entries}
use Rattle.posix_calls.proofs.Directory.{entries-empty, entries-insert, entries-remove}
use Rattle.file_graph.specs.declared.name_map.NamedEntry.{NamedEntry}
use Rattle.file_graph.specs.NameOrder.{pairs, IsInOrder, without, one_later, position_by, position_in}

-- how two names compare
abbrev pub names_cmp : List ℕ → List ℕ → Ordering
names_cmp = slice_cmp nat_cmp

abbrev Pairs : Type 0 → Type 0
Pairs V = List (List ℕ × V)

and_left : (a b : Bool) → (a && b) ≡ true → a ≡ true
and_left true b e = refl
and_left false b e = e

and_right : (a b : Bool) → (a && b) ≡ true → b ≡ true
and_right true b e = e
and_right false b e = absurd (cc)

and_both : (a b : Bool) → a ≡ true → b ≡ true → (a && b) ≡ true
and_both true b p q = q
and_both false b p q = p

is_less : (o : Ordering) → is_lt o ≡ true → o ≡ Less
is_less Less e = refl
is_less Equal e = absurd (cc)
is_less Greater e = absurd (cc)

-- ---- order

turned : (x y : List ℕ) (o : Ordering) → names_cmp x y ≡ o → names_cmp y x ≡ ordering_reverse o
turned x y o e = nat_list_cmp_total.antisymm y x ∙ ap ordering_reverse e

-- a name that comes before all that come after x, where x does not come before it
below_through : {V : Type 0} → (q x : List ℕ) → ((z : List ℕ) → names_cmp x z ≡ Less → names_cmp q z ≡ Less) → (es : Pairs V) → below_all names_cmp x es ≡ true → below_all names_cmp q es ≡ true
below_through q x through [] h = refl
below_through q x through (e ∷ es) h =
    and_both _ _ (ap is_lt (through e.0 (is_less _ (and_left _ _ h)))) (below_through q x through es (and_right _ _ h))

pub below_less : {V : Type 0} → (q x : List ℕ) → names_cmp q x ≡ Less → (es : Pairs V) → below_all names_cmp x es ≡ true → below_all names_cmp q es ≡ true
below_less q x e es h = below_through q x (λ z f. nat_list_cmp_total.trans q x z e f) es h

pub below_tied : {V : Type 0} → (q x : List ℕ) → names_cmp q x ≡ Equal → (es : Pairs V) → below_all names_cmp x es ≡ true → below_all names_cmp q es ≡ true
below_tied q x e es h = below_through q x (λ z f. nat_list_cmp_total.congr q x z e ∙ f) es h

below_at : {V : Type 0} → (x : List ℕ) (es : List (NamedEntry V)) (k : ℕ) (d : NamedEntry V) → below_all names_cmp x (pairs es) ≡ true → k < length es → names_cmp x (get_or es k d).name ≡ Less
below_at x [] k d h within = absurd (omega arith)
below_at x (e ∷ es) zero d h within = is_less _ (and_left _ _ h)
below_at x (e ∷ es) (suc k) d h within = below_at x es k d (and_right _ _ h) (omega arith)

adjacent : {V : Type 0} → (es : List (NamedEntry V)) (k j : ℕ) (d : NamedEntry V) → IsInOrder es → j ≡ suc k → j < length es → names_cmp (get_or es k d).name (get_or es j d).name ≡ Less
adjacent [] k j d h next within = absurd (omega arith)
adjacent (e ∷ es) k zero d h next within = absurd (omega arith)
adjacent (e ∷ es) zero (suc j) d h next within = below_at e.name es j d (and_left _ _ h) (omega arith)
adjacent (e ∷ es) (suc k) (suc j) d h next within = adjacent es k j d (and_right _ _ h) (omega arith) (omega arith)

pub sorted_by_name : {V : Type 0} → (es : List (NamedEntry V)) → IsInOrder es → IsSortedBy (λ a b. is_lt (names_cmp a.name b.name)) es
sorted_by_name es h k d low within = ap is_lt (turned (get_or es k d).name (get_or es (k + 1) d).name Less (adjacent es k (k + 1) d h (omega arith) within))

-- ---- a place that a search found

pub free_place : {V : Type 0} → (q : List ℕ) (es : List (NamedEntry V)) (i : ℕ) → i ≤ length es → ((k : ℕ) (d : NamedEntry V) → k < i → names_cmp (get_or es k d).name q ≡ Less)
    → ((k : ℕ) (d : NamedEntry V) → i ≤ k → k < length es → names_cmp (get_or es k d).name q ≡ Greater) → position_in q es ≡ Err i
free_place q [] i within below above = ap Err (let none : 0 ≡ i = omega arith in none)
free_place q (e ∷ es) zero within below above = ap (λ o. position_by o (position_in q es)) (turned e.name q Greater (above 0 e (omega arith) (omega arith)))
free_place q (e ∷ es) (suc i) within below above =
    ap (λ o. position_by o (position_in q es)) (turned e.name q Less (below 0 e (omega arith)))
    ∙ ap one_later (free_place q es i (omega arith) (λ k d lt. below (suc k) d (omega arith)) (λ k d le lt. above (suc k) d (omega arith) (omega arith)))

pub found_place : {V : Type 0} → (q : List ℕ) (es : List (NamedEntry V)) (i : ℕ) → IsInOrder es → i < length es → ((d : NamedEntry V) → names_cmp (get_or es i d).name q ≡ Equal) → position_in q es ≡ Ok i
found_place q [] i order within here = absurd (omega arith)
found_place q (e ∷ es) zero order within here = ap (λ o. position_by o (position_in q es)) (turned e.name q Equal (here e))
found_place q (e ∷ es) (suc i) order within here =
    let later : names_cmp (get_or es i e).name e.name ≡ Greater = turned e.name (get_or es i e).name Less (below_at e.name es i e (and_left _ _ order) (omega arith)) in
    ap (λ o. position_by o (position_in q es)) (sym (nat_list_cmp_total.congr (get_or es i e).name q e.name (here e)) ∙ later)
    ∙ ap one_later (found_place q es i (and_right _ _ order) (omega arith) here)

-- the place among the others, where it comes after the first
found_later : (r : Result ℕ ℕ) (i : ℕ) → one_later r ≡ Ok i → (j : ℕ) × (r ≡ Ok j) × (i ≡ suc j)
found_later (Ok j) i e = (j, refl, cc)
found_later (Err j) i e = absurd cc

free_later : (r : Result ℕ ℕ) (i : ℕ) → one_later r ≡ Err i → (j : ℕ) × (r ≡ Err j) × (i ≡ suc j)
free_later (Ok j) i e = absurd cc
free_later (Err j) i e = (j, refl, cc)

-- ---- what is under a name

find_below : {V : Type 0} → (q : List ℕ) (es : Pairs V) → below_all names_cmp q es ≡ true → fin.find names_cmp q es ≡ None
find_below q [] h = refl
find_below q (e ∷ es) h = ap (λ o. cond (is_eq o) (Some e.1) (fin.find names_cmp q es)) (is_less _ (and_left _ _ h)) ∙ find_below q es (and_right _ _ h)

pub find_found : {V : Type 0} → (q : List ℕ) (es : List (NamedEntry V)) (i : ℕ) (d : NamedEntry V) → position_in q es ≡ Ok i → Some (get_or es i d).value ≡ fin.find names_cmp q (pairs es)
find_found q [] i d e = absurd cc
find_found {V = V} q (x ∷ es) i d e =
    elim (names_cmp q x.name) as (λ r. position_by r (position_in q es) ≡ Ok i → Some (get_or (x ∷ es) i d).value ≡ cond (is_eq r) (Some x.value) (fin.find names_cmp q (pairs es))) [
      | Less ↦ λ h. absurd cc
      | Equal ↦ λ h. let at : i ≡ 0 = cc in ap (λ k. Some (get_or (x ∷ es) k d).value) at
      | Greater ↦ λ h. let later = found_later (position_in q es) i h in ap (λ k. Some (get_or (x ∷ es) k d).value) later.2 ∙ find_found q es later.0 d later.1
    ] e

pub find_free : {V : Type 0} → (q : List ℕ) (es : List (NamedEntry V)) (i : ℕ) → IsInOrder es → position_in q es ≡ Err i → None ≡ fin.find names_cmp q (pairs es)
find_free q [] i order e = refl
find_free {V = V} q (x ∷ es) i order e =
    elim (names_cmp q x.name) as (λ r. names_cmp q x.name ≡ r → position_by r (position_in q es) ≡ Err i → None ≡ cond (is_eq r) (Some x.value) (fin.find names_cmp q (pairs es))) [
      | Less ↦ λ p h. sym (find_below q (pairs es) (below_less q x.name p (pairs es) (and_left _ _ order)))
      | Equal ↦ λ p h. absurd cc
      | Greater ↦ λ p h. let later = free_later (position_in q es) i h in find_free q es later.0 (and_right _ _ order) later.1
    ] refl e

-- ---- a name taken out

pub without_below : {V : Type 0} → (q : List ℕ) (es : Pairs V) → below_all names_cmp q es ≡ true → without q es ≡ es
without_below q [] h = refl
without_below {V = V} q (e ∷ es) h = ap (λ o. cond (not (is_eq o)) (e ∷ without q es) (without q es)) (is_less _ (and_left _ _ h)) ∙ ap (λ (ps : Pairs V). e ∷ ps) (without_below q es (and_right _ _ h))

pub remove_found : {V : Type 0} → (q : List ℕ) (es : List (NamedEntry V)) (i : ℕ) → IsInOrder es → position_in q es ≡ Ok i → pairs (remove es i) ≡ without q (pairs es)
remove_found q [] i order e = absurd cc
remove_found {V = V} q (x ∷ es) i order e =
    elim (names_cmp q x.name) as (λ r. names_cmp q x.name ≡ r → position_by r (position_in q es) ≡ Ok i → pairs (remove (x ∷ es) i) ≡ cond (not (is_eq r)) ((x.name, x.value) ∷ without q (pairs es)) (without q (pairs es))) [
      | Less ↦ λ p h. absurd cc
      | Equal ↦ λ p h. let at : i ≡ 0 = cc in ap (λ k. pairs (remove (x ∷ es) k)) at ∙ sym (without_below q (pairs es) (below_tied q x.name p (pairs es) (and_left _ _ order)))
      | Greater ↦ λ p h.
          let later = found_later (position_in q es) i h in
          ap (λ k. pairs (remove (x ∷ es) k)) later.2 ∙ ap (λ (ps : Pairs V). (x.name, x.value) ∷ ps) (remove_found q es later.0 (and_right _ _ order) later.1)
    ] refl e

pub remove_free : {V : Type 0} → (q : List ℕ) (es : List (NamedEntry V)) (i : ℕ) → IsInOrder es → position_in q es ≡ Err i → pairs es ≡ without q (pairs es)
remove_free q [] i order e = refl
remove_free {V = V} q (x ∷ es) i order e =
    elim (names_cmp q x.name) as (λ r. names_cmp q x.name ≡ r → position_by r (position_in q es) ≡ Err i → pairs (x ∷ es) ≡ cond (not (is_eq r)) ((x.name, x.value) ∷ without q (pairs es)) (without q (pairs es))) [
      | Less ↦ λ p h. ap (λ (ps : Pairs V). (x.name, x.value) ∷ ps) (sym (without_below q (pairs es) (below_less q x.name p (pairs es) (and_left _ _ order))))
      | Equal ↦ λ p h. absurd cc
      | Greater ↦ λ p h.
          let later = free_later (position_in q es) i h in
          ap (λ (ps : Pairs V). (x.name, x.value) ∷ ps) (remove_free q es later.0 (and_right _ _ order) later.1)
    ] refl e

-- ---- a name put in

abbrev put_pair : {V : Type 0} → List ℕ → V → List (NamedEntry V) → Pairs V
put_pair name v es = fin.put names_cmp name v (pairs es)

-- an entry that stands there gets another value
pub put_found : {V : Type 0} → (name : List ℕ) (value : V) (es : List (NamedEntry V)) (i : ℕ) (d : NamedEntry V) → position_in name es ≡ Ok i → d ≡ get_or es i d
    → pairs (set es i (record { name = d.name; value = value })) ≡ put_pair name value es
put_found name value [] i d e is = absurd cc
put_found {V = V} name value (x ∷ es) i d e is =
    elim (names_cmp name x.name) as (λ r. position_by r (position_in name es) ≡ Ok i → pairs (set (x ∷ es) i (record { name = d.name; value = value })) ≡ by_order r ((name, value) ∷ pairs (x ∷ es)) ((x.name, value) ∷ pairs es) ((x.name, x.value) ∷ put_pair name value es)) [
      | Less ↦ λ h. absurd cc
      | Equal ↦ λ h.
          let at : i ≡ 0 = cc in
          let here : d ≡ x = is ∙ ap (λ (k : ℕ). get_or (x ∷ es) k d) at in
          ap (λ (k : ℕ). pairs (set (x ∷ es) k (record { name = d.name; value = value }))) at ∙ ap (λ (y : NamedEntry V). (y.name, value) ∷ pairs es) here
      | Greater ↦ λ h.
          let later = found_later (position_in name es) i h in
          let there : d ≡ get_or es later.0 d = is ∙ ap (λ (k : ℕ). get_or (x ∷ es) k d) later.2 in
          ap (λ (k : ℕ). pairs (set (x ∷ es) k (record { name = d.name; value = value }))) later.2
          ∙ ap (λ (ps : Pairs V). (x.name, x.value) ∷ ps) (put_found name value es later.0 d later.1 there)
    ] e

-- a new entry goes where it belongs
pub put_new : {V : Type 0} → (new : NamedEntry V) (es : List (NamedEntry V)) (i : ℕ) → position_in new.name es ≡ Err i → pairs (insert es i new) ≡ put_pair new.name new.value es
put_new new [] i e = ap (λ (k : ℕ). pairs (take k [] ++ new ∷ drop k [])) (let at : i ≡ 0 = cc in at)
put_new {V = V} new (x ∷ es) i e =
    elim (names_cmp new.name x.name) as (λ r. position_by r (position_in new.name es) ≡ Err i → pairs (insert (x ∷ es) i new) ≡ by_order r ((new.name, new.value) ∷ pairs (x ∷ es)) ((x.name, new.value) ∷ pairs es) ((x.name, x.value) ∷ put_pair new.name new.value es)) [
      | Less ↦ λ h. let at : i ≡ 0 = cc in ap (λ (k : ℕ). pairs (insert (x ∷ es) k new)) at
      | Equal ↦ λ h. absurd cc
      | Greater ↦ λ h.
          let later = free_later (position_in new.name es) i h in
          ap (λ (k : ℕ). pairs (insert (x ∷ es) k new)) later.2
          ∙ ap (λ (ps : Pairs V). (x.name, x.value) ∷ ps) (put_new new es later.0 later.1)
    ] e

-- ---- as the value of the model

from_T : (b : Bool) → T b → b ≡ true
from_T true h = refl
from_T false h = absurd h

abbrev pub as_map : {V : Type 0} → List (NamedEntry V) → Entries V
as_map es = fin.from_sorted (pairs es)

pub entries_are : {V : Type 0} → (es : List (NamedEntry V)) → IsInOrder es → fin.entries (as_map es) ≡ pairs es
entries_are es order = fin.entries-from_sorted names_cmp (pairs es) (subst T (sym order) tt)

-- entries in order that are the entries of a map
settled : {V : Type 0} → (new : List (NamedEntry V)) (m : Entries V) → fin.entries m ≡ pairs new → IsInOrder new × (as_map new ≡ m)
settled {V = V} new m all =
    let sorted : T (fin.is_sorted names_cmp (pairs new)) = subst (λ (ps : Pairs V). T (fin.is_sorted names_cmp ps)) all (fin.entries_sorted m) in
    let same : fin.entries (as_map new) ≡ fin.entries m = fin.entries-from_sorted names_cmp (pairs new) sorted ∙ sym all in
    (from_T _ sorted, fin.same_entries_map (as_map new) m same)

pub put_is_insert : {V : Type 0} → (es new : List (NamedEntry V)) (name : List ℕ) (v : V) → IsInOrder es → pairs new ≡ put_pair name v es → IsInOrder new × (as_map new ≡ fin.insert (as_map es) name v)
put_is_insert es new name v order e =
    settled new (fin.insert (as_map es) name v) (entries-insert (as_map es) name v ∙ ap (fin.put names_cmp name v) (entries_are es order) ∙ sym e)

pub without_is_remove : {V : Type 0} → (es new : List (NamedEntry V)) (name : List ℕ) → IsInOrder es → pairs new ≡ without name (pairs es) → IsInOrder new × (as_map new ≡ fin.remove (as_map es) name)
without_is_remove es new name order e = settled new (fin.remove (as_map es) name) (entries-remove (as_map es) name ∙ ap (without name) (entries_are es order) ∙ sym e)

pub no_entries : {V : Type 0} → as_map {V = V} [] ≡ fin.empty
no_entries {V = V} = fin.same_entries_map (as_map {V = V} []) fin.empty (fin.entries-from_sorted {X = V} names_cmp [] tt ∙ sym (entries-empty V))

pub get_is_find : {V : Type 0} → (es : List (NamedEntry V)) (q : List ℕ) → IsInOrder es → fin.find names_cmp q (pairs es) ≡ fin.get (as_map es) q
get_is_find es q order = sym (fin.get-from_sorted names_cmp (pairs es) q (subst T (sym order) tt))

-- a map has as many entries as the list of which it was made
pub counted : {V : Type 0} (es : List (NamedEntry V)) (m : Entries V) → IsInOrder es → as_map es ≡ m → length es ≡ fin.len m
counted {V = V} es m order is =
    sym (length-map es (λ (e : NamedEntry V). (e.name, e.value))) ∙ sym (ap length (entries_are es order)) ∙ sym (fin.len-entries (as_map es)) ∙ ap (λ (n : Entries V). fin.len n) is
