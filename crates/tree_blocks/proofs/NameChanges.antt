-- Entries by name, as a list of changes is carried out from its last to its first.
use Rattle.std.proofs.Common.{◌≡◌, inl, inr, ℕ, zero, suc, ◌+◌, ◌-◌, ◌≤◌, ◌<◌, Bool, true, false, cond, List, [], ◌∷◌, length, get_or, drop, refl, sym, ◌∙◌, ap, subst, arith, Option, Some, None}
use Rattle.std.specs.Prelude.{is_some, ◌&&◌, T}
use Rattle.std.specs.Ordering.{nat_cmp, eq_by_cmp, is_lt, is_eq}
use Rattle.std.specs.declared.cmp.Ordering.{Ordering}
use Rattle.std.specs.declared.cmp.Ordering.TheVariants.{Less, Equal, Greater}
use Rattle.std.specs.Cmp.Lexicographic.{slice_cmp, nat_list_cmp_total}
use Rattle.std.specs.FinMap as fin
use Rattle.std.specs.FinMap.Entries.{below_all}
use Rattle.std.proofs.lemmas.List.Sums.{sum_by-cons}
use Rattle.std.proofs.Math.Seq.{drop-cons}
use Rattle.std.proofs.Math.ListN.{drop_of_length-le}
use Rattle.posix_calls.specs.Content.{Entries}
use Rattle.graph_change.specs.file_graph.NameOrder.{pairs}
use Rattle.graph_change.specs.file_graph.declared.name_map.NamedEntry.{NamedEntry}
use Rattle.graph_change.specs.Net.{Child, with_entry, with_entries}
use Rattle.tree_blocks.specs.Directory.{coming_count, next_count, entry_blocks, most_written}
use Rattle.tree_blocks.proofs.Directories.{names_same, same_name, cases_name}

abbrev Name : Type 0
Name = List ℕ

abbrev pub NameChange : Type 0
NameChange = Name × Option Child

abbrev order : Name → Name → Ordering
order = slice_cmp nat_cmp

-- ---- the last of a list that is not done yet

pub next_done : {A : Type 0} (xs : List A) (done : ℕ) (d : A) → done < length xs → drop (length xs - (done + 1)) xs ≡ get_or xs (length xs - 1 - done) d ∷ drop (length xs - done) xs
next_done xs done d lt =
    let k : ℕ = length xs - 1 - done in
    let at : length xs - (done + 1) ≡ k = omega (arith, lt) in
    let more : suc k ≡ length xs - done = omega (arith, lt) in
    ap (λ i. drop i xs) at ∙ drop-cons xs k d (omega (arith, lt)) ∙ ap (λ i. get_or xs k d ∷ drop i xs) more

pub none_done : {A : Type 0} (xs : List A) → drop (length xs - 0) xs ≡ []
none_done xs = drop_of_length-le xs (omega arith)

pub all_done : {A : Type 0} (xs : List A) → drop (length xs - length xs) xs ≡ xs
all_done xs = let none : length xs - length xs ≡ 0 = omega arith in ap (λ i. drop i xs) none

-- the same of entries by name
abbrev pub behind : {V : Type 0} → List (NamedEntry V) → ℕ → List (Name × V)
behind es done = drop (length (pairs es) - done) (pairs es)

pair_at : {V : Type 0} (es : List (NamedEntry V)) (k : ℕ) (x : NamedEntry V) → get_or (pairs es) k (x.name, x.value) ≡ ((get_or es k x).name, (get_or es k x).value)
pair_at [] k x = refl
pair_at (e ∷ es) zero x = refl
pair_at (e ∷ es) (suc k) x = pair_at es k x

pub pairs_long : {V : Type 0} (es : List (NamedEntry V)) → length (pairs es) ≡ length es
pairs_long [] = refl
pairs_long (e ∷ es) = ap suc (pairs_long es)

-- the one that is read is the next
pub pair_is : {V : Type 0} (es : List (NamedEntry V)) (done : ℕ) (x : NamedEntry V) → x ≡ get_or es (length es - 1 - done) x → get_or (pairs es) (length (pairs es) - 1 - done) (x.name, x.value) ≡ (x.name, x.value)
pair_is es done x is =
    ap (λ (n : ℕ). get_or (pairs es) (n - 1 - done) (x.name, x.value)) (pairs_long es) ∙ pair_at es (length es - 1 - done) x ∙ ap (λ (e : NamedEntry _). (e.name, e.value)) (sym is)

pub next_behind : {V : Type 0} (es : List (NamedEntry V)) (done : ℕ) (x : NamedEntry V) → done < length es → x ≡ get_or es (length es - 1 - done) x → behind es (done + 1) ≡ (x.name, x.value) ∷ behind es done
next_behind es done x lt is =
    next_done (pairs es) done (x.name, x.value) (omega (arith, pairs_long es, lt)) ∙ ap (λ e. e ∷ behind es done) (pair_is es done x is)

pub all_behind : {V : Type 0} (es : List (NamedEntry V)) → behind es (length es) ≡ pairs es
all_behind es = ap (behind es) (sym (pairs_long es)) ∙ all_done (pairs es)

-- ---- how many names come

pub coming_drop : (cs : List NameChange) (k : ℕ) → coming_count (drop k cs) ≤ coming_count cs
coming_drop [] zero = omega arith
coming_drop [] (suc k) = omega arith
coming_drop (c ∷ cs) zero = omega arith
coming_drop (c ∷ cs) (suc k) = let rest = coming_drop cs k in let one = at_least (coming_count cs) (is_some c.1) in omega (arith, rest, one) where
  at_least : (n : ℕ) (b : Bool) → n ≤ next_count n false b
  at_least n true = omega arith
  at_least n false = omega arith

-- ---- how many names there are after one change

pub len_entry : (name : Name) (what : Option Child) (m : Entries Child) → fin.len (with_entry name what m) ≡ next_count (fin.len m) (fin.contains_key m name) (is_some what)
len_entry name None m = fin.len-remove nat_list_cmp_total m name
len_entry name (Some x) m = fin.len-insert nat_list_cmp_total m name x

counted_most : (n : ℕ) (stood comes : Bool) → next_count n stood comes ≤ next_count n false comes
counted_most n true true = omega arith
counted_most n true false = omega arith
counted_most n false comes = omega arith

counted_more : (n k : ℕ) (comes : Bool) → next_count (n + k) false comes ≡ n + next_count k false comes
counted_more n k true = omega arith
counted_more n k false = refl

counted_up : (n k : ℕ) (comes : Bool) → n ≤ k → next_count n false comes ≤ next_count k false comes
counted_up n k true le = omega (arith, le)
counted_up n k false le = le

pub len_bound : (cs : List NameChange) (m : Entries Child) → fin.len (with_entries cs m) ≤ fin.len m + coming_count cs
len_bound [] m = omega arith
len_bound (c ∷ cs) m =
    let rest = with_entries cs m in
    let one = len_entry c.0 c.1 rest in
    let two = counted_most (fin.len rest) (fin.contains_key rest c.0) (is_some c.1) in
    let three = counted_up (fin.len rest) (fin.len m + coming_count cs) (is_some c.1) (len_bound cs m) in
    let four = counted_more (fin.len m) (coming_count cs) (is_some c.1) in
    omega (arith, one, two, three, four)

pub counted_one : (n : ℕ) (stood comes : Bool) → next_count n stood comes ≤ n + 1
counted_one n true true = omega arith
counted_one n true false = omega arith
counted_one n false true = omega arith
counted_one n false false = omega arith

-- no more names come than the changes have
pub few_behind : (es : List (NamedEntry (Option Child))) (done : ℕ) → coming_count (behind es done) ≤ coming_count (pairs es)
few_behind es done = coming_drop (pairs es) (length (pairs es) - done)

pub grown : (es : List (NamedEntry (Option Child))) (done : ℕ) (x : NamedEntry (Option Child)) → done < length es → x ≡ get_or es (length es - 1 - done) x → (after count : ℕ) → after ≤ count + coming_count (behind es done)
    → next_count after false (is_some x.value) ≤ count + coming_count (behind es (done + 1))
grown es done x lt is after count few =
    let next = ap coming_count (next_behind es done x lt is) in
    let up = counted_up after (count + coming_count (behind es done)) (is_some x.value) few in
    let more = counted_more count (coming_count (behind es done)) (is_some x.value) in
    omega (arith, next, up, more)

-- one change more writes its blocks
pub written_next : (es : List (NamedEntry (Option Child))) (done : ℕ) (x : NamedEntry (Option Child)) → done < length es → x ≡ get_or es (length es - 1 - done) x → most_written (behind es (done + 1)) ≡ entry_blocks x.value + most_written (behind es done)
written_next es done x lt is = ap most_written (next_behind es done x lt is) ∙ sum_by-cons (λ (c : NameChange). entry_blocks c.1) (x.name, x.value) (behind es done)

-- where a name stands there is one at least
pub some_named : (m : Entries Child) (name : Name) → fin.contains_key m name ≡ true → 0 < fin.len m
some_named m name stands = by (fin.len m) refl where
  by : (n : ℕ) → fin.len m ≡ n → 0 < n
  by zero none =
      let gone : fin.contains_key m name ≡ false = ap (λ (x : Entries Child). fin.contains_key x name) (fin.empty_of_len m none) ∙ ap is_some (fin.get-empty order name) in
      absurd cc
  by (suc n) is = omega arith

-- ---- what the other names keep

entry_apart : (b : Bool) (what x old : Option Child) → b ≡ false → x ≡ old → cond b what x ≡ old
entry_apart b what x old off is = ap (λ t. cond t what x) off ∙ is

get_entry : (name : Name) (what : Option Child) (m : Entries Child) (q : Name) → fin.get (with_entry name what m) q ≡ cond (eq_by_cmp order q name) what (fin.get m q)
get_entry name None m q = fin.get-remove nat_list_cmp_total m name q
get_entry name (Some x) m q = fin.get-insert nat_list_cmp_total m name x q

pub get_apart : (cs : List NameChange) (m : Entries Child) (q : Name) → fin.find order q cs ≡ None → fin.get (with_entries cs m) q ≡ fin.get m q
get_apart [] m q none = refl
get_apart (c ∷ cs) m q none =
    elim (eq_by_cmp order q c.0) as (λ b. eq_by_cmp order q c.0 ≡ b → cond b (Some c.1) (fin.find order q cs) ≡ None → fin.get (with_entries (c ∷ cs) m) q ≡ fin.get m q) [
      | true ↦ λ is bad. absurd (cc)
      | false ↦ λ is rest. get_entry c.0 c.1 (with_entries cs m) q ∙ entry_apart (eq_by_cmp order q c.0) c.1 (fin.get (with_entries cs m) q) (fin.get m q) is (get_apart cs m q rest)
    ] refl none

-- ---- in a list in order each name stands once

parts : (a b : Bool) → T (a && b) → T a × T b
parts true b h = (tt, h)
parts false b h = absurd h

below_none : (low : Name) (cs : List NameChange) → T (below_all order low cs) → fin.find order low cs ≡ None
below_none low [] below = refl
below_none low (c ∷ cs) below =
    let both = parts (is_lt (order low c.0)) (below_all order low cs) below in
    elim (order low c.0) as (λ o. T (is_lt o) → cond (is_eq o) (Some c.1) (fin.find order low cs) ≡ None) [
      | Less ↦ λ is. below_none low cs both.1
      | Equal ↦ λ is. absurd is
      | Greater ↦ λ is. absurd is
    ] both.0

pub sorted_apart : (cs : List NameChange) (k : ℕ) (d : NameChange) → T (fin.is_sorted order cs) → k < length cs → fin.find order (get_or cs k d).0 (drop (suc k) cs) ≡ None
sorted_apart [] k d sorted lt = absurd (omega (arith, lt))
sorted_apart (c ∷ cs) zero d sorted lt = below_none c.0 cs (parts (below_all order c.0 cs) (fin.is_sorted order cs) sorted).0
sorted_apart (c ∷ cs) (suc k) d sorted lt = sorted_apart cs k d (parts (below_all order c.0 cs) (fin.is_sorted order cs) sorted).1 (omega (arith, lt))

pub is_true : (b : Bool) → b ≡ true → T b
is_true true e = tt
is_true false e = absurd (cc)

pub true_is : (b : Bool) → T b → b ≡ true
true_is true t = refl
true_is false t = absurd t

-- entries of a map are in order
pub sorted_entries : (m : Entries (Option Child)) (ps : List NameChange) → ps ≡ fin.entries m → fin.is_sorted order ps ≡ true
sorted_entries m ps is = true_is (fin.is_sorted order ps) (subst (λ (l : List NameChange). T (fin.is_sorted order l)) (sym is) (fin.entries_sorted m))

-- a name that stands nowhere is taken out of nothing
pub remove_absent : (m : Entries Child) (name : Name) → fin.get m name ≡ None → fin.remove m name ≡ m
unfolding same_name
remove_absent m name none = fin.same_map nat_list_cmp_total names_same (fin.remove m name) m (λ q.
    elim (cases_name q name) [
      | inl same ↦ fin.get-remove nat_list_cmp_total m name q ∙ ap (λ b. cond b None (fin.get m q)) same.1 ∙ sym none ∙ ap (fin.get m) (sym same.0)
      | inr other ↦ fin.get-remove nat_list_cmp_total m name q ∙ ap (λ b. cond b None (fin.get m q)) other.1
    ])

-- the next name stands in none of the changes that are done
pub next_apart : (es : List (NamedEntry (Option Child))) (done : ℕ) (x : NamedEntry (Option Child)) → T (fin.is_sorted order (pairs es)) → done < length es → x ≡ get_or es (length es - 1 - done) x
    → fin.find order x.name (behind es done) ≡ None
next_apart es done x sorted lt is =
    let k : ℕ = length (pairs es) - 1 - done in
    let long = pairs_long es in
    let more : suc k ≡ length (pairs es) - done = omega (arith, lt, long) in
    ap (λ (c : NameChange). fin.find order c.0 (behind es done)) (sym (pair_is es done x is))
    ∙ ap (λ i. fin.find order (get_or (pairs es) k (x.name, x.value)).0 (drop i (pairs es))) (sym more)
    ∙ sorted_apart (pairs es) k (x.name, x.value) sorted (omega (arith, lt, long))

-- so it stands among the entries if it stood among them before
pub stands_still : (es : List (NamedEntry (Option Child))) (done : ℕ) (x : NamedEntry (Option Child)) (m : Entries Child) → T (fin.is_sorted order (pairs es)) → done < length es → x ≡ get_or es (length es - 1 - done) x
    → fin.contains_key (with_entries (behind es done) m) x.name ≡ fin.contains_key m x.name
stands_still es done x m sorted lt is = ap is_some (get_apart (behind es done) m x.name (next_apart es done x sorted lt is))
