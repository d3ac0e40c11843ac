-- What one change of a tree does to its entries, to the kinds of its nodes, and to the number of names.
use Rattle.std.proofs.Common.{◌≡◌, ◌≢◌, ◌⊎◌, inl, inr, ℕ, ◌+◌, ◌≤◌, List, refl, Some, None, Option, cond, ap, sym, ◌∙◌, arith, ◌==◌}
use Rattle.std.proofs.lemmas.Bool.Decides.{eqb_tells}
use Rattle.std.proofs.lemmas.Bool.{eq-eqb}
use Rattle.std.specs.Prelude.{option_map}
use Rattle.std.specs.FinMap as fin
use Rattle.posix_calls.specs.Content.{Entries}
use Rattle.posix_calls.specs.Tree.{Tree, Node, File, Dir, set_node, entries_of, names_of, names_in, sum_up_to}
use Rattle.posix_calls.specs.declared.limits.TheConstants.{MAX_INODE}
use Rattle.posix_calls.specs.Query.{dir_test}
use Rattle.posix_calls.specs.declared.operation.Location.{Location}
use Rattle.posix_calls.specs.Operations.{with_entry, without_entry}
pub use Rattle.posix_calls.specs.WellFormed.{IsBare}
use Rattle.posix_calls.specs.WellFormed.{IsDirectory, IsFile}
use Rattle.posix_calls.proofs.Sums.{names_of-set_node, same_if, there_if}
use Rattle.posix_calls.proofs.Counts.{order, counted, counted_is, counted_insert, counted_remove, counted_empty, gone, get_left, none_left, get_other, get_other_insert, get_here, insert_back}

-- what a name in a directory leads to
abbrev pub entry : Tree → Location → Option ℕ
entry t at = fin.get (entries_of (t at.parent)) at.name

-- a name that is free in a directory
pub record IsRoom (t : Tree) (at : Location) : Type 0 where
  pub directory : IsDirectory (t at.parent)
  pub none : entry t at ≡ None

-- ---- one node

pub set_there : (t : Tree) (i : ℕ) (x : Option Node) → set_node t i x i ≡ x
set_there t i x = there_if i x (t i)

pub set_other : (t : Tree) (i j : ℕ) (x : Option Node) → j ≢ i → set_node t i x j ≡ t j
set_other t i j x other = same_if j i x (t j) other

-- what looks alike at the node that changes looks alike everywhere
pub set_alike : {A : Type 0} (f : Option Node → A) (t : Tree) (i : ℕ) (x : Option Node) → f x ≡ f (t i) → (j : ℕ) → f (set_node t i x j) ≡ f (t j)
set_alike f t i x same j =
    elim (eqb_tells j i) [
      | inl at_i ↦ ap (λ b. f (cond b x (t j))) at_i.0 ∙ same ∙ ap (λ y. f (t y)) (sym at_i.1)
      | inr off ↦ ap (λ b. f (cond b x (t j))) off.0
    ]

-- a directory has its entries
pub entries_here : (o : Option Node) (es : Entries ℕ) → o ≡ Some (Dir es) → entries_of o ≡ es
entries_here o es is = ap entries_of is

pub no_entry : (name : List ℕ) (i : ℕ) → fin.get {X = ℕ} {R = order} fin.empty name ≡ Some i → ⊥
no_entry name i e = let none : fin.get {X = ℕ} {R = order} fin.empty name ≡ None = fin.get-empty order name in let clash : None ≡ Some i = sym none ∙ e in cc

-- what has an entry is a directory
pub entry_parent : (o : Option Node) (name : List ℕ) (i : ℕ) → fin.get (entries_of o) name ≡ Some i → IsDirectory o
entry_parent None name i e = absurd (no_entry name i e)
entry_parent (Some (File bytes)) name i e = absurd (no_entry name i e)
entry_parent (Some (Dir es)) name i e = refl

-- the names in a node are those of its entries
pub in_node : (k : ℕ) (o : Option Node) → names_in k o ≡ counted k (entries_of o)
in_node k None = sym (counted_empty k)
in_node k (Some (File bytes)) = sym (counted_empty k)
in_node k (Some (Dir es)) = counted_is k es

-- ---- a node without entries is changed for another

pub bare_entry : (o : Option Node) (name : List ℕ) (i : ℕ) → IsBare o → fin.get (entries_of o) name ≡ Some i → ⊥
bare_entry o name i bare e = no_entry name i (ap (λ m. fin.get m name) (sym bare) ∙ e)

pub bare_file : (o : Option Node) → IsFile o → IsBare o
bare_file None e = refl
bare_file (Some (File bytes)) e = refl
bare_file (Some (Dir es)) e = absurd (cc)

module _ (t : Tree) (i : ℕ) (x : Option Node) (bare : IsBare (t i)) (new : IsBare x) where
  pub bare_entries : (d : ℕ) → entries_of (set_node t i x d) ≡ entries_of (t d)
  bare_entries d = set_alike entries_of t i x (new ∙ sym bare) d

  pub bare_same : (at : Location) → entry (set_node t i x) at ≡ entry t at
  bare_same at = ap (λ m. fin.get m at.name) (bare_entries at.parent)

  bare_at : (k d : ℕ) → names_in k (set_node t i x d) ≡ names_in k (t d)
  bare_at k d = set_alike (names_in k) t i x (in_node k x ∙ ap (counted k) (new ∙ sym bare) ∙ sym (in_node k (t i))) d

  pub bare_names : (k : ℕ) → names_of (set_node t i x) k ≡ names_of t k
  unfolding names_of
  bare_names k = ap (sum_up_to MAX_INODE) (λ j d. bare_at k d j)

-- ---- a name comes

module _ (t : Tree) (at : Location) (i : ℕ) where
  abbrev after_in : Option Node
  after_in = Some (Dir (fin.insert (entries_of (t at.parent)) at.name i))

  pub entered_kind : IsDirectory (t at.parent) → (j : ℕ) → option_map dir_test (with_entry t at i j) ≡ option_map dir_test (t j)
  entered_kind is j = set_alike (option_map dir_test) t at.parent after_in (sym is) j

  pub entered_here : entry (with_entry t at i) at ≡ Some i
  entered_here = ap (λ o. fin.get (entries_of o) at.name) (set_there t at.parent after_in) ∙ get_here (entries_of (t at.parent)) at.name i

  pub entered_back : (x : Location) (j : ℕ) → entry (with_entry t at i) x ≡ Some j → (j ≡ i) ⊎ (entry t x ≡ Some j)
  entered_back x j e = elim (eqb_tells x.parent at.parent) [
    | inl same ↦ elim (insert_back (entries_of (t at.parent)) at.name x.name i j (sym (ap (λ b. fin.get (entries_of (cond b after_in (t x.parent))) x.name) same.0) ∙ e)) [
      | inl new ↦ inl new
      | inr old ↦ inr (ap (λ d. fin.get (entries_of (t d)) x.name) same.1 ∙ old)
    ]
    | inr off ↦ inr (sym (ap (λ o. fin.get (entries_of o) x.name) (set_other t at.parent x.parent after_in off.1)) ∙ e)
  ]

  pub entered_keeps : entry t at ≡ None → (x : Location) (j : ℕ) → entry t x ≡ Some j → entry (with_entry t at i) x ≡ Some j
  entered_keeps none x j e = elim (eqb_tells x.parent at.parent) [
    | inl same ↦
        let here : fin.get (entries_of (t at.parent)) x.name ≡ Some j = ap (λ d. fin.get (entries_of (t d)) x.name) (sym same.1) ∙ e in
        let apart : x.name ≢ at.name = λ s. let clash : Some j ≡ None = sym here ∙ ap (fin.get (entries_of (t at.parent))) s ∙ none in absurd (cc) in
        ap (λ b. fin.get (entries_of (cond b after_in (t x.parent))) x.name) same.0 ∙ get_other_insert (entries_of (t at.parent)) at.name x.name i apart ∙ here
    | inr off ↦ ap (λ o. fin.get (entries_of o) x.name) (set_other t at.parent x.parent after_in off.1) ∙ e
  ]

  pub entered_names : entry t at ≡ None → 1 ≤ at.parent → at.parent ≤ 1024 → (k : ℕ) → names_of (with_entry t at i) k ≡ names_of t k + cond (i == k) 1 0
  entered_names none low high k =
      let change : names_of (with_entry t at i) k + names_in k (t at.parent) ≡ names_of t k + counted k (fin.insert (entries_of (t at.parent)) at.name i)
      = names_of-set_node t at.parent k after_in low high ∙ ap (λ n. names_of t k + n) (counted_is k (fin.insert (entries_of (t at.parent)) at.name i)) in
      let before = in_node k (t at.parent) in
      let more = counted_insert k (entries_of (t at.parent)) at.name i none in
      omega (arith, change, before, more)

-- ---- a name goes

module _ (t : Tree) (at : Location) where
  abbrev after_out : Option Node
  after_out = Some (Dir (fin.remove (entries_of (t at.parent)) at.name))

  pub left_kind : IsDirectory (t at.parent) → (j : ℕ) → option_map dir_test (without_entry t at j) ≡ option_map dir_test (t j)
  left_kind is j = set_alike (option_map dir_test) t at.parent after_out (sym is) j

  pub left_here : entry (without_entry t at) at ≡ None
  left_here = ap (λ o. fin.get (entries_of o) at.name) (set_there t at.parent after_out) ∙ gone (entries_of (t at.parent)) at.name

  pub left_back : (x : Location) (j : ℕ) → entry (without_entry t at) x ≡ Some j → entry t x ≡ Some j
  left_back x j e = elim (eqb_tells x.parent at.parent) [
    | inl same ↦ ap (λ d. fin.get (entries_of (t d)) x.name) same.1 ∙ get_left (entries_of (t at.parent)) at.name x.name j (sym (ap (λ b. fin.get (entries_of (cond b after_out (t x.parent))) x.name) same.0) ∙ e)
    | inr off ↦ sym (ap (λ o. fin.get (entries_of o) x.name) (set_other t at.parent x.parent after_out off.1)) ∙ e
  ]

  pub left_none : (x : Location) → entry t x ≡ None → entry (without_entry t at) x ≡ None
  left_none x e = elim (eqb_tells x.parent at.parent) [
    | inl same ↦ ap (λ b. fin.get (entries_of (cond b after_out (t x.parent))) x.name) same.0 ∙ none_left (entries_of (t at.parent)) at.name x.name (ap (λ d. fin.get (entries_of (t d)) x.name) (sym same.1) ∙ e)
    | inr off ↦ ap (λ o. fin.get (entries_of o) x.name) (set_other t at.parent x.parent after_out off.1) ∙ e
  ]

  pub left_keeps : (i : ℕ) → entry t at ≡ Some i → (x : Location) (j : ℕ) → j ≢ i → entry t x ≡ Some j → entry (without_entry t at) x ≡ Some j
  left_keeps i is x j other e = elim (eqb_tells x.parent at.parent) [
    | inl same ↦
        let here : fin.get (entries_of (t at.parent)) x.name ≡ Some j = ap (λ d. fin.get (entries_of (t d)) x.name) (sym same.1) ∙ e in
        let apart : x.name ≢ at.name = λ s. let clash : Some j ≡ Some i = sym here ∙ ap (fin.get (entries_of (t at.parent))) s ∙ is in let one : j ≡ i = cc in absurd (other one) in
        ap (λ b. fin.get (entries_of (cond b after_out (t x.parent))) x.name) same.0 ∙ get_other (entries_of (t at.parent)) at.name x.name i apart ∙ here
    | inr off ↦ ap (λ o. fin.get (entries_of o) x.name) (set_other t at.parent x.parent after_out off.1) ∙ e
  ]

  pub left_names : (i : ℕ) → entry t at ≡ Some i → 1 ≤ at.parent → at.parent ≤ 1024 → (k : ℕ) → names_of (without_entry t at) k + cond (i == k) 1 0 ≡ names_of t k
  left_names i is low high k =
      let change : names_of (without_entry t at) k + names_in k (t at.parent) ≡ names_of t k + counted k (fin.remove (entries_of (t at.parent)) at.name)
      = names_of-set_node t at.parent k after_out low high ∙ ap (λ n. names_of t k + n) (counted_is k (fin.remove (entries_of (t at.parent)) at.name)) in
      let before = in_node k (t at.parent) in
      let less = counted_remove k (entries_of (t at.parent)) at.name i is in
      omega (arith, change, before, less)

-- what is named has a name
pub has_name : (t : Tree) (at : Location) (i : ℕ) → entry t at ≡ Some i → 1 ≤ at.parent → at.parent ≤ 1024 → 1 ≤ names_of t i
has_name t at i is low high =
    let less : names_of (without_entry t at) i + cond (i == i) 1 0 ≡ names_of t i = left_names t at i is low high i in
    let one : ◌≡◌ {A = ℕ} (cond (i == i) 1 0) 1 = ap (λ b. cond b 1 0) (eq-eqb i i refl) in
    omega (arith, less, one)

-- another inode's names stay
pub off_one : (c j : ℕ) → j ≢ c → ◌≡◌ {A = ℕ} (cond (c == j) 1 0) 0
off_one c j other = elim (eqb_tells c j) [ inl same ↦ absurd (other (sym same.1)) | inr off ↦ ap (λ b. cond b 1 0) off.0 ]

pub on_one : (c : ℕ) → ◌≡◌ {A = ℕ} (cond (c == c) 1 0) 1
on_one c = ap (λ b. cond b 1 0) (eq-eqb c c refl)
