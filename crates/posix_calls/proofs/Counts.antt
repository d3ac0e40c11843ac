-- The entries of a directory, as they change, and how many are of one inode.
use Rattle.std.proofs.Common.{◌≡◌, ◌≢◌, ◌⊎◌, inl, inr, ℕ, ◌+◌, List, [], ◌∷◌, refl, Some, None, cond, ap, sym, ◌∙◌, subst, true, false, Bool, arith, ◌==◌}
use Rattle.std.specs.Prelude.{count_by}
use Rattle.std.specs.declared.cmp.Ordering.{Ordering}
use Rattle.std.specs.declared.cmp.Ordering.TheVariants.{Less, Equal, Greater}
use Rattle.std.specs.Ordering.{nat_cmp, eq_by_cmp, is_eq}
use Rattle.std.specs.Cmp.Lexicographic.{slice_cmp, nat_list_cmp_total}
use Rattle.std.specs.Cmp.{eq_by_cmp_equiv}
use Rattle.std.specs.FinMap as fin
use Rattle.std.proofs.lemmas.List.Sums.{sum_by-cons}
use Rattle.std.specs.FinMap.Entries.{by_order}
use Rattle.posix_calls.specs.Content.{Entries}
use Rattle.posix_calls.specs.Tree.{Dir, names_in}
use Rattle.posix_calls.proofs.Directory.{entries-empty, names_same}

abbrev pub order : List ℕ → List ℕ → Ordering
order = slice_cmp nat_cmp

-- ---- how many entries pass

to_front : (a b c : ℕ) → a + (b + c) ≡ b + c + a
to_front a b c = omega arith

further : (b c d a : ℕ) → d ≡ c + a → b + d ≡ b + c + a
further b c d a e = omega arith

last_one : (a : ℕ) → a + 0 ≡ 0 + a
last_one a = omega arith

abbrev tally : {X : Type 0} → (X → Bool) → List (List ℕ × X) → ℕ
tally p [] = 0
tally p (e ∷ es) = cond (p e.1) 1 0 + tally p es

counts_tally : {X : Type 0} (p : X → Bool) (es : List (List ℕ × X)) → count_by (λ e. p e.1) es ≡ tally p es
counts_tally p [] = refl
counts_tally p (e ∷ es) = sum_by-cons (λ x. cond (p x.1) 1 0) e es ∙ ap (λ n. cond (p e.1) 1 0 + n) (counts_tally p es)

tally_put : {X : Type 0} (p : X → Bool) (k : List ℕ) (v : X) (es : List (List ℕ × X)) → fin.find order k es ≡ None → tally p (fin.put order k v es) ≡ tally p es + cond (p v) 1 0
tally_put p k v [] none = last_one (cond (p v) 1 0)
tally_put p k v (e ∷ es) none =
    elim (order k e.0) as (λ o. cond (is_eq o) (Some e.1) (fin.find order k es) ≡ None → tally p (by_order o ((k, v) ∷ e ∷ es) ((e.0, v) ∷ es) (e ∷ fin.put order k v es)) ≡ cond (p e.1) 1 0 + tally p es + cond (p v) 1 0) [
      | Less ↦ λ is. to_front (cond (p v) 1 0) (cond (p e.1) 1 0) (tally p es)
      | Equal ↦ λ is. absurd (cc)
      | Greater ↦ λ is. further (cond (p e.1) 1 0) (tally p es) (tally p (fin.put order k v es)) (cond (p v) 1 0) (tally_put p k v es is)
    ] none

count_put : {X : Type 0} (p : X → Bool) (k : List ℕ) (v : X) (es : List (List ℕ × X)) → fin.find order k es ≡ None → count_by (λ e. p e.1) (fin.put order k v es) ≡ count_by (λ e. p e.1) es + cond (p v) 1 0
count_put p k v es none = counts_tally p (fin.put order k v es) ∙ tally_put p k v es none ∙ ap (λ n. n + cond (p v) 1 0) (sym (counts_tally p es))

pub counted : ℕ → Entries ℕ → ℕ
counted i es = names_in i (Some (Dir es))

pub counted_is : (i : ℕ) (es : Entries ℕ) → names_in i (Some (Dir es)) ≡ counted i es
unfolding counted
counted_is i es = refl

pub counted_insert : (i : ℕ) (m : Entries ℕ) (name : List ℕ) (v : ℕ) → fin.get m name ≡ None → counted i (fin.insert m name v) ≡ counted i m + cond (v == i) 1 0
unfolding counted
counted_insert i m name v none = ap (count_by (λ e. e.1 == i)) (fin.entries-insert nat_list_cmp_total m name v) ∙ count_put (λ x. x == i) name v (fin.entries m) (sym (fin.get-entries m name) ∙ none)

itself : (name : List ℕ) → eq_by_cmp order name name ≡ true
itself name = (eq_by_cmp_equiv nat_list_cmp_total).refl name

pub gone : {X : Type 0} (m : Entries X) (name : List ℕ) → fin.get (fin.remove m name) name ≡ None
gone m name = fin.get-remove nat_list_cmp_total m name name ∙ ap (λ b. cond b None (fin.get m name)) (itself name)

again : {A : Type 0} (b : Bool) (x y z : A) → cond b x (cond b y z) ≡ cond b x z
again true x y z = refl
again false x y z = refl

pub put_back : {X : Type 0} (m : Entries X) (name : List ℕ) (v : X) → fin.insert (fin.remove m name) name v ≡ fin.insert m name v
put_back m name v = fin.same_map nat_list_cmp_total names_same _ _ (λ q.
    fin.get-insert nat_list_cmp_total (fin.remove m name) name v q ∙ ap (cond (eq_by_cmp order q name) (Some v)) (fin.get-remove nat_list_cmp_total m name q) ∙ again (eq_by_cmp order q name) (Some v) None (fin.get m q) ∙ sym (fin.get-insert nat_list_cmp_total m name v q))

-- names that compare as equal are one
pub alike : (q name : List ℕ) → eq_by_cmp order q name ≡ true → q ≡ name
alike q name e = elim (order q name) as (λ o. order q name ≡ o → is_eq o ≡ true → q ≡ name) [
  | Less ↦ λ is t. absurd (cc)
  | Equal ↦ λ is t. names_same q name is
  | Greater ↦ λ is t. absurd (cc)
] refl e

stays : {X : Type 0} (m : Entries X) (name : List ℕ) (v : X) → fin.get m name ≡ Some v → fin.insert m name v ≡ m
stays m name v is = fin.same_map nat_list_cmp_total names_same _ _ (λ q.
    fin.get-insert nat_list_cmp_total m name v q
    ∙ elim (eq_by_cmp order q name) as (λ b. eq_by_cmp order q name ≡ b → cond b (Some v) (fin.get m q) ≡ fin.get m q) [
      | true ↦ λ e. sym is ∙ ap (fin.get m) (sym (alike q name e))
      | false ↦ λ e. refl
    ] refl)

-- a name that is not there takes nothing out
pub absent : {X : Type 0} (m : Entries X) (name : List ℕ) → fin.get m name ≡ None → fin.remove m name ≡ m
absent m name none = fin.same_map nat_list_cmp_total names_same _ _ (λ q.
    fin.get-remove nat_list_cmp_total m name q
    ∙ elim (eq_by_cmp order q name) as (λ b. eq_by_cmp order q name ≡ b → cond b None (fin.get m q) ≡ fin.get m q) [
      | true ↦ λ e. sym none ∙ ap (fin.get m) (sym (alike q name e))
      | false ↦ λ e. refl
    ] refl)

pub counted_remove : (i : ℕ) (m : Entries ℕ) (name : List ℕ) (v : ℕ) → fin.get m name ≡ Some v → counted i (fin.remove m name) + cond (v == i) 1 0 ≡ counted i m
counted_remove i m name v is = sym (counted_insert i (fin.remove m name) name v (gone m name)) ∙ ap (counted i) (put_back m name v ∙ stays m name v is)

pub counted_empty : (i : ℕ) → counted i fin.empty ≡ 0
unfolding counted
counted_empty i = ap (count_by (λ e. e.1 == i)) (entries-empty ℕ)

-- another name's entry stays
pub get_other : {X : Type 0} (m : Entries X) (name q : List ℕ) (v : X) → q ≢ name → fin.get (fin.remove m name) q ≡ fin.get m q
get_other m name q v other = fin.get-remove nat_list_cmp_total m name q
    ∙ elim (eq_by_cmp order q name) as (λ b. eq_by_cmp order q name ≡ b → cond b None (fin.get m q) ≡ fin.get m q) [
      | true ↦ λ e. absurd (other (alike q name e))
      | false ↦ λ e. refl
    ] refl

pub get_inserted : {X : Type 0} (m : Entries X) (name q : List ℕ) (v w : X) (P : X → Type 0) → P v → ((u : X) → fin.get m q ≡ Some u → P u) → fin.get (fin.insert m name v) q ≡ Some w → P w
get_inserted m name q v w P now before is =
    elim (eq_by_cmp order q name) as (λ b. cond b (Some v) (fin.get m q) ≡ Some w → P w) [
      | true ↦ λ e. subst P (let s : v ≡ w = cc in s) now
      | false ↦ λ e. before w e
    ] (sym (fin.get-insert nat_list_cmp_total m name v q) ∙ is)

pub get_left : {X : Type 0} (m : Entries X) (name q : List ℕ) (w : X) → fin.get (fin.remove m name) q ≡ Some w → fin.get m q ≡ Some w
get_left m name q w is =
    elim (eq_by_cmp order q name) as (λ b. cond b None (fin.get m q) ≡ Some w → fin.get m q ≡ Some w) [
      | true ↦ λ e. absurd (cc)
      | false ↦ λ e. e
    ] (sym (fin.get-remove nat_list_cmp_total m name q) ∙ is)

pub none_of_no_entries : {X : Type 0} (m : Entries X) (name : List ℕ) (v : X) → fin.len m ≡ 0 → fin.get m name ≡ Some v → ⊥
none_of_no_entries m name v e is = let empty : m ≡ fin.empty = fin.empty_of_len m e in let none : fin.get m name ≡ None = ap (λ x. fin.get x name) empty ∙ fin.get-empty order name in cc

pub none_left : {X : Type 0} (m : Entries X) (name q : List ℕ) → fin.get m q ≡ None → fin.get (fin.remove m name) q ≡ None
none_left m name q none = fin.get-remove nat_list_cmp_total m name q ∙ elim (eq_by_cmp order q name) as (λ b. cond b None (fin.get m q) ≡ None) [ true ↦ refl | false ↦ none ]

pub get_other_insert : {X : Type 0} (m : Entries X) (name q : List ℕ) (v : X) → q ≢ name → fin.get (fin.insert m name v) q ≡ fin.get m q
get_other_insert m name q v other = fin.get-insert nat_list_cmp_total m name v q
    ∙ elim (eq_by_cmp order q name) as (λ b. eq_by_cmp order q name ≡ b → cond b (Some v) (fin.get m q) ≡ fin.get m q) [
      | true ↦ λ e. absurd (other (alike q name e))
      | false ↦ λ e. refl
    ] refl

-- a name that was put leads where it was put
pub get_here : {X : Type 0} (m : Entries X) (name : List ℕ) (v : X) → fin.get (fin.insert m name v) name ≡ Some v
get_here m name v = fin.get-insert nat_list_cmp_total m name v name ∙ ap (λ b. cond b (Some v) (fin.get m name)) (itself name)

-- what a name leads to is what was put, or stood there
pub insert_back : {X : Type 0} (m : Entries X) (name q : List ℕ) (v w : X) → fin.get (fin.insert m name v) q ≡ Some w → (w ≡ v) ⊎ (fin.get m q ≡ Some w)
insert_back m name q v w is =
    elim (eq_by_cmp order q name) as (λ b. cond b (Some v) (fin.get m q) ≡ Some w → (w ≡ v) ⊎ (fin.get m q ≡ Some w)) [
      | true ↦ λ e. inl (let s : w ≡ v = cc in s)
      | false ↦ λ e. inr e
    ] (sym (fin.get-insert nat_list_cmp_total m name v q) ∙ is)

-- a name that leads somewhere is the one that was put, or led there before
pub insert_named : {X : Type 0} (m : Entries X) (name q : List ℕ) (v w : X) → fin.get (fin.insert m name v) q ≡ Some w → (q ≡ name) ⊎ (fin.get m q ≡ Some w)
insert_named m name q v w is =
    elim (eq_by_cmp order q name) as (λ b. eq_by_cmp order q name ≡ b → cond b (Some v) (fin.get m q) ≡ Some w → (q ≡ name) ⊎ (fin.get m q ≡ Some w)) [
      | true ↦ λ same e. inl (alike q name same)
      | false ↦ λ off e. inr e
    ] refl (sym (fin.get-insert nat_list_cmp_total m name v q) ∙ is)
