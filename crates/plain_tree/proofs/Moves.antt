-- A name that is put in before the old one is taken out.
use Rattle.std.proofs.Common.{◌≡◌, ◌≢◌, ℕ, List, Option, Some, None, refl, sym, ap, ◌∙◌, inl, inr, arith, cond, if◌then◌else◌, ◌==◌, ◌&&◌, true, false, Bool, not, ◌+◌}
use Rattle.std.specs.Ordering.{eq_by_cmp}
use Rattle.std.specs.Cmp.Lexicographic.{nat_list_cmp_total}
use Rattle.std.specs.FinMap as fin
use Rattle.std.proofs.lemmas.Bool.{cases_eq}
use Rattle.std.proofs.lemmas.Bool.Decides.{nat_tests}
use Rattle.posix_calls.specs.Content.{Entries}
use Rattle.posix_calls.specs.Tree.{Node, Tree, Dir, set_node, entries_of, names_in, names_of, sum_up_to, is_open, Descriptors}
use Rattle.posix_calls.specs.Operations.{with_entry, without_entry, less_replaced}
use Rattle.plain_tree.specs.Plain.{less_put_out, at_location, IsMovable}
use Rattle.posix_calls.specs.declared.operation.Location.{Location}
use Rattle.posix_calls.specs.declared.operation.Replaced.{Replaced}
use Rattle.posix_calls.specs.declared.operation.Replaced.TheVariants.{Nothing, OldFile, OldDir}
use Rattle.posix_calls.specs.declared.limits.TheConstants.{MAX_INODE}
use Rattle.posix_calls.proofs.Directory.{names_same}
use Rattle.posix_calls.proofs.Counts.{order, counted, counted_is, counted_insert, alike, put_back}
use Rattle.posix_calls.proofs.Counts as counts
use Rattle.posix_calls.proofs.Changes.{set_there, set_other, off_one}

-- ---- nodes that are set

twice_at : (t : Tree) (i : ℕ) (x y : Option Node) (d : ℕ) → set_node (set_node t i x) i y d ≡ set_node t i y d
twice_at t i x y d = grind (arith, nat_tests)

set_twice : (t : Tree) (i : ℕ) (x y : Option Node) → set_node (set_node t i x) i y ≡ set_node t i y
set_twice t i x y = λ k d. twice_at t i x y d k

swap_at : (t : Tree) (i j : ℕ) (x y : Option Node) (d : ℕ) → i ≢ j → set_node (set_node t i x) j y d ≡ set_node (set_node t j y) i x d
swap_at t i j x y d apart = grind (arith, nat_tests)

pub set_swap : (t : Tree) (i j : ℕ) (x y : Option Node) → i ≢ j → set_node (set_node t i x) j y ≡ set_node (set_node t j y) i x
set_swap t i j x y apart = λ k d. swap_at t i j x y d apart k

-- ---- entries that are put in and taken out

crossed_at : (x y : Bool) (i : ℕ) (o : Option ℕ) → (x ≡ true → y ≡ true → ⊥) → cond x None (cond y (Some i) o) ≡ cond y (Some i) (cond x None o)
crossed_at true true i o apart = absurd (apart refl refl)
crossed_at true false i o apart = refl
crossed_at false y i o apart = refl

-- another name is taken out
crossed : (e : Entries ℕ) (a b : List ℕ) (i : ℕ) → a ≢ b → fin.remove (fin.insert e b i) a ≡ fin.insert (fin.remove e a) b i
crossed e a b i apart =
    fin.same_map nat_list_cmp_total names_same _ _
    (λ q. fin.get-remove nat_list_cmp_total (fin.insert e b i) a q
    ∙ ap (cond (eq_by_cmp order q a) None) (fin.get-insert nat_list_cmp_total e b i q)
    ∙ crossed_at (eq_by_cmp order q a) (eq_by_cmp order q b) i (fin.get e q) (λ x y. apart (sym (alike q a x) ∙ alike q b y))
    ∙ ap (cond (eq_by_cmp order q b) (Some i)) (sym (fin.get-remove nat_list_cmp_total e a q))
    ∙ sym (fin.get-insert nat_list_cmp_total (fin.remove e a) b i q))

-- ---- names that move

-- what a directory is with a name, and without one
abbrev with_name : Option Node → List ℕ → ℕ → Option Node
with_name o b i = Some (Dir (fin.insert (entries_of o) b i))

abbrev less_name : Option Node → List ℕ → Option Node
less_name o a = Some (Dir (fin.remove (entries_of o) a))

-- two names, of which one is put in and the other taken out
abbrev AreApart : Location → Location → Type 0
AreApart from to = from.parent ≡ to.parent → from.name ≢ to.name

swapped : (t : Tree) (from to : Location) (i : ℕ) → AreApart from to → without_entry (with_entry t to i) from ≡ with_entry (without_entry t from) to i
swapped t from to i apart =
    elim (cases_eq from.parent to.parent) [
      | inl same ↦
          let q = from.parent in
          let p = to.parent in
          let e : Entries ℕ = entries_of (t p) in
          ap (λ n. set_node (with_entry t to i) n (less_name (with_entry t to i n) from.name)) same
          ∙ ap (λ (o : Option Node). set_node (with_entry t to i) p (less_name o from.name)) (set_there t p (with_name (t p) to.name i))
          ∙ set_twice t p _ _
          ∙ ap (λ (m : Entries ℕ). set_node t p (Some (Dir m))) (crossed e from.name to.name i (apart same))
          ∙ sym (set_twice t p (less_name (t p) from.name) (with_name (less_name (t p) from.name) to.name i))
          ∙ sym (ap (λ (o : Option Node). set_node (set_node t p (less_name (t p) from.name)) p (with_name o to.name i)) (set_there t p (less_name (t p) from.name)))
          ∙ sym (ap (λ n. with_entry (set_node t n (less_name (t n) from.name)) to i) same)
      | inr other ↦
          let q = from.parent in
          let p = to.parent in
          ap (λ (o : Option Node). set_node (with_entry t to i) q (less_name o from.name)) (set_other t p q (with_name (t p) to.name i) other)
          ∙ set_swap t p q (with_name (t p) to.name i) (less_name (t q) from.name) (λ e. other (sym e))
          ∙ sym (ap (λ (o : Option Node). set_node (without_entry t from) p (with_name o to.name i)) (set_other t q p (less_name (t q) from.name) (λ e. other (sym e))))
    ]

-- a name that was taken out first
pub renewed : (t : Tree) (to : Location) (i : ℕ) → with_entry (without_entry t to) to i ≡ with_entry t to i
renewed t to i =
    let p = to.parent in
    ap (λ (o : Option Node). set_node (without_entry t to) p (with_name o to.name i)) (set_there t p (less_name (t p) to.name))
    ∙ set_twice t p _ _
    ∙ ap (λ (m : Entries ℕ). set_node t p (Some (Dir m))) (put_back (entries_of (t p)) to.name i)

-- another node goes before or after
left_apart : (t : Tree) (at : Location) (j : ℕ) → j ≢ at.parent → without_entry (set_node t j None) at ≡ set_node (without_entry t at) j None
left_apart t at j apart =
    ap (λ (o : Option Node). set_node (set_node t j None) at.parent (less_name o at.name)) (set_other t j at.parent None (λ e. apart (sym e)))
    ∙ set_swap t j at.parent None (less_name (t at.parent) at.name) apart

entered_apart : (t : Tree) (at : Location) (i j : ℕ) → j ≢ at.parent → with_entry (set_node t j None) at i ≡ set_node (with_entry t at i) j None
entered_apart t at i j apart =
    ap (λ (o : Option Node). set_node (set_node t j None) at.parent (with_name o at.name i)) (set_other t j at.parent None (λ e. apart (sym e)))
    ∙ set_swap t j at.parent None (with_name (t at.parent) at.name i) apart

kept : (t : Tree) (from to : Location) (i : ℕ) → AreApart from to → without_entry (with_entry t to i) from ≡ with_entry (without_entry (without_entry t to) from) to i
kept t from to i apart = ap (λ (u : Tree). without_entry u from) (sym (renewed t to i)) ∙ swapped (without_entry t to) from to i apart

gone : (t : Tree) (from to : Location) (i j : ℕ) → AreApart from to → j ≢ from.parent → j ≢ to.parent
    → without_entry (set_node (with_entry t to i) j None) from ≡ with_entry (without_entry (set_node (without_entry t to) j None) from) to i
gone t from to i j apart off_from off_to =
    left_apart (with_entry t to i) from j off_from
    ∙ ap (λ (u : Tree). set_node u j None) (kept t from to i apart)
    ∙ sym (entered_apart (without_entry (without_entry t to) from) to i j off_to)
    ∙ sym (ap (λ (u : Tree). with_entry u to i) (left_apart (without_entry t to) from j off_from))

-- ---- names that are counted

-- a name of another inode that is put in counts as one that is taken out
put_in_one : (o : Option Node) (b : List ℕ) (i j : ℕ) → i ≢ j → names_in j (with_name o b i) ≡ names_in j (less_name o b)
put_in_one o b i j apart =
    let e : Entries ℕ = entries_of o in
    let more : counted j (fin.insert (fin.remove e b) b i) ≡ counted j (fin.remove e b) + (if i == j then 1 else 0) = counted_insert j (fin.remove e b) b i (counts.gone e b) in
    let none : (if i == j then 1 else 0) ≡ 0 = off_one i j (λ e. apart (sym e)) in
    let same : counted j (fin.insert (fin.remove e b) b i) ≡ counted j (fin.insert e b i) = ap (counted j) (put_back e b i) in
    let count : counted j (fin.insert e b i) ≡ counted j (fin.remove e b) = omega (arith, more, none, same) in
    counted_is j (fin.insert e b i) ∙ count ∙ sym (counted_is j (fin.remove e b))

put_in_at : (t : Tree) (to : Location) (i j d : ℕ) → i ≢ j → names_in j (with_entry t to i d) ≡ names_in j (without_entry t to d)
put_in_at t to i j d apart = either (d == to.parent) (with_name (t to.parent) to.name i) (less_name (t to.parent) to.name) (put_in_one (t to.parent) to.name i j apart)
  where
    either : (b : Bool) (x y : Option Node) → names_in j x ≡ names_in j y → names_in j (if b then x else t d) ≡ names_in j (if b then y else t d)
    either true x y same = same
    either false x y same = refl

-- so it does in the whole tree
same_names : (t : Tree) (to : Location) (i j : ℕ) → i ≢ j → names_of (with_entry t to i) j ≡ names_of (without_entry t to) j
unfolding names_of
same_names t to i j apart = ap (sum_up_to MAX_INODE) (λ k d. put_in_at t to i j d apart k)

-- ---- a move

pub off_parent : (t : Tree) (at : Location) (j n : ℕ) → at_location t at ≡ Some n → entries_of (t j) ≡ fin.empty → j ≢ at.parent
off_parent t at j n there empty same =
    let nothing : fin.get (entries_of (t at.parent)) at.name ≡ None = ap (λ (m : ℕ). fin.get (entries_of (t m)) at.name) (sym same) ∙ ap (λ (e : Entries ℕ). fin.get e at.name) empty ∙ fin.get-empty order at.name in
    absurd (cc)

locations_apart : (t : Tree) (from to : Location) (i : ℕ) (o : Option ℕ) → at_location t from ≡ Some i → at_location t to ≡ o → Some i ≢ o → AreApart from to
locations_apart t from to i o there is other same names =
    other (sym there ∙ ap (λ (n : ℕ). fin.get (entries_of (t n)) from.name) same ∙ ap (fin.get (entries_of (t to.parent))) names ∙ is)

both : (b : Bool) (x y : Tree → Tree) (u v : Tree) (f g : Tree → Tree) → f (x u) ≡ g (x v) → f (y u) ≡ g (y v) → f (cond b (x u) (y u)) ≡ g (cond b (x v) (y v))
both true x y u v f g p q = p
both false x y u v f g p q = q

pub moved : (held : Descriptors) (t : Tree) (from to : Location) (i : ℕ) (replaced : Replaced) → IsMovable t from to i replaced
    → without_entry (less_put_out held (with_entry t to i) replaced) from ≡ with_entry (without_entry (less_replaced held t to replaced) from) to i
moved held t from to i Nothing h = swapped t from to i (locations_apart t from to i None h.0 h.1 (λ e. absurd cc))
moved held t from to i (OldDir j) h =
    gone t from to i j (locations_apart t from to i (Some j) h.0 h.1.1 (λ e. h.1.0 (cc))) (off_parent t from j i h.0 h.1.2) (off_parent t to j j h.1.1 h.1.2)
moved held t from to i (OldFile j) h =
    let apart : AreApart from to = locations_apart t from to i (Some j) h.0 h.1.1 (λ e. h.1.0 (cc)) in
    let test : (n : ℕ) → Bool = λ n. (n == 0) && not (is_open held j) in
    ap (λ (n : ℕ). without_entry (cond (test n) (set_node (with_entry t to i) j None) (with_entry t to i)) from) (same_names t to i j h.1.0)
    ∙ both (test (names_of (without_entry t to) j)) (λ u. set_node u j None) (λ u. u) (with_entry t to i) (without_entry t to) (λ u. without_entry u from) (λ u. with_entry (without_entry u from) to i)
    (gone t from to i j apart (off_parent t from j i h.0 h.1.2) (off_parent t to j j h.1.1 h.1.2)) (kept t from to i apart)
