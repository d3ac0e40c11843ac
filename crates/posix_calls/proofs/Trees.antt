-- The tree of a well-formed state, where one node or one name changes; and when the state stays well-formed.
use Rattle.std.proofs.Common.{◌≡◌, ◌≢◌, ◌⊎◌, inl, inr, ℕ, ◌<◌, ◌≤◌, refl, Some, None, Option, ap, sym, ◌∙◌, subst, Bool, true, arith}
use Rattle.std.proofs.lemmas.Bool.Decides.{eqb_tells}
use Rattle.std.specs.Prelude.{option_map, IsSome, is_some}
use Rattle.posix_calls.specs.Tree.{Tree, Node, Descriptors, State, set_node, names_of, is_open}
use Rattle.posix_calls.specs.declared.descriptor.Descriptor.{Descriptor}
use Rattle.posix_calls.specs.Query.{dir_test}
use Rattle.posix_calls.specs.declared.operation.Location.{Location}
use Rattle.posix_calls.specs.Operations.{with_entry, without_entry}
use Rattle.posix_calls.specs.WellFormed.{IsDirectory, IsFile, IsWellFormed}
use Rattle.posix_calls.proofs.Changes.{entry, entry_parent, set_other, entered_kind, left_kind, has_name}
use Rattle.posix_calls.proofs.Reached.{AreReached, path_chain, chain_path}

-- the root and the numbers of a well-formed state
pub record IsTree (t : Tree) : Type 0 where
  pub root : IsDirectory (t 1)
  pub inodes : (i : ℕ) → IsSome (t i) → (1 ≤ i) × (i ≤ 1024)

pub tree_of : (s : State) → IsWellFormed s → IsTree s.tree
tree_of s fine = record { root = fine.root; inodes = fine.inodes }

pub reached_of : (s : State) → IsWellFormed s → AreReached s.tree
reached_of s fine j is = let path = fine.reached j is in path_chain s.tree path.0 1 j path.1

-- ---- whether a node is there

some_map : (o : Option Node) → is_some (option_map dir_test o) ≡ is_some o
some_map None = refl
some_map (Some x) = refl

pub some_kind : (o : Option Node) (b : Bool) → option_map dir_test o ≡ Some b → IsSome o
some_kind o b is = sym (some_map o) ∙ ap is_some is

pub some_alike : (o p : Option Node) → option_map dir_test o ≡ option_map dir_test p → IsSome p → IsSome o
some_alike o p same is = sym (some_map o) ∙ ap is_some same ∙ some_map p ∙ is

-- where a directory stands there is an inode number
pub range_of : (t : Tree) (i : ℕ) (b : Bool) → IsTree t → option_map dir_test (t i) ≡ Some b → (1 ≤ i) × (i ≤ 1024)
range_of t i b tree is = tree.inodes i (some_kind (t i) b is)

pub parent_range : (t : Tree) (at : Location) (i : ℕ) → IsTree t → entry t at ≡ Some i → (1 ≤ at.parent) × (at.parent ≤ 1024)
parent_range t at i tree is = range_of t at.parent true tree (entry_parent (t at.parent) at.name i is)

pub named_once : (t : Tree) (at : Location) (i : ℕ) → IsTree t → entry t at ≡ Some i → 1 ≤ names_of t i
named_once t at i tree is = let range = parent_range t at i tree is in has_name t at i is range.0 range.1

-- ---- the tree after a change

pub tree_entered : (t : Tree) (at : Location) (i : ℕ) → IsTree t → IsDirectory (t at.parent) → IsTree (with_entry t at i)
tree_entered t at i tree is = record {
  root = entered_kind t at i is 1 ∙ tree.root;
  inodes = λ j some. tree.inodes j (some_alike (t j) (with_entry t at i j) (sym (entered_kind t at i is j)) some);
}

pub tree_left : (t : Tree) (at : Location) → IsTree t → IsDirectory (t at.parent) → IsTree (without_entry t at)
tree_left t at tree is = record {
  root = left_kind t at is 1 ∙ tree.root;
  inodes = λ j some. tree.inodes j (some_alike (t j) (without_entry t at j) (sym (left_kind t at is j)) some);
}

pub tree_set : (t : Tree) (i : ℕ) (x : Option Node) → IsTree t → i ≢ 1 → 1 ≤ i → i ≤ 1024 → IsTree (set_node t i x)
tree_set t i x tree other low high = record {
  root = ap (option_map dir_test) (set_other t i 1 x (λ e. other (sym e))) ∙ tree.root;
  inodes = λ j some. elim (eqb_tells j i) [
    | inl same ↦ (let e = same.1 in omega (arith, e, low), let e = same.1 in omega (arith, e, high))
    | inr off ↦ tree.inodes j (ap is_some (sym (set_other t i j x off.1)) ∙ some)
  ];
}

pub none_there : (o : Option Node) → option_map dir_test o ≡ None → o ≡ None
none_there None e = refl
none_there (Some x) e = absurd (cc)

-- every entry names a node
pub node_of : (s : State) (at : Location) (i : ℕ) → IsWellFormed s → entry s.tree at ≡ Some i → IsSome (s.tree i)
node_of s at i fine is = elim (s.tree i) as (λ o. s.tree i ≡ o → IsSome o) [
  | None ↦ λ none.
      let one = named_once s.tree at i (tree_of s fine) is in
      let zero_names = fine.entries i none in
      absurd (omega (arith, one, zero_names))
  | Some x ↦ λ there. refl
] refl

-- ---- a state that differs from a well-formed one at one inode

module _ (s : State) (t : Tree) (held : Descriptors) (i : ℕ) (fine : IsWellFormed s) where
  -- what is the same beside i
  pub record IsBeside : Type 0 where
    pub kinds : (j : ℕ) → j ≢ i → option_map dir_test (t j) ≡ option_map dir_test (s.tree j)
    pub names : (j : ℕ) → j ≢ i → names_of t j ≡ names_of s.tree j
    pub opens : (j : ℕ) → j ≢ i → is_open s.descriptors j ≡ true → is_open held j ≡ true

  -- and what holds at i
  pub record IsRight : Type 0 where
    pub none : t i ≡ None → names_of t i ≡ 0
    pub one_name : IsDirectory (t i) → names_of t i ≡ 1
    pub used : IsFile (t i) → (0 < names_of t i) ⊎ (is_open held i ≡ true)

  pub record IsHeld : Type 0 where
    pub numbers : (c n : ℕ) → IsSome (held c n) → (1 ≤ c) × (c ≤ 8) × (n < 32)
    pub opened : (c n : ℕ) (o : Descriptor) → held c n ≡ Some o → IsFile (t o.inode)

  pub well_formed : i ≢ 1 → IsTree t → AreReached t → IsHeld → IsBeside → IsRight → IsWellFormed (record { tree = t; descriptors = held })
  well_formed other tree reached holds beside right = record {
    root = tree.root;
    root_names = beside.names 1 (λ e. other (sym e)) ∙ fine.root_names;
    inodes = tree.inodes;
    numbers = holds.numbers;
    entries = λ j is. elim (eqb_tells j i) [
      | inl same ↦ ap (names_of t) same.1 ∙ right.none (ap t (sym same.1) ∙ is)
      | inr off ↦ beside.names j off.1 ∙ fine.entries j (none_there (s.tree j) (sym (beside.kinds j off.1) ∙ ap (option_map dir_test) is))
    ];
    opened = holds.opened;
    one_name = λ j is root. elim (eqb_tells j i) [
      | inl same ↦ ap (names_of t) same.1 ∙ right.one_name (subst (λ k. IsDirectory (t k)) same.1 is)
      | inr off ↦ beside.names j off.1 ∙ fine.one_name j (sym (beside.kinds j off.1) ∙ is) root
    ];
    reached = λ j is. let way = reached j is in chain_path t way.0 1 j way.1;
    used = λ j is. elim (eqb_tells j i) [
      | inl same ↦ subst (λ k. (0 < names_of t k) ⊎ (is_open held k ≡ true)) (sym same.1) (right.used (subst (λ k. IsFile (t k)) same.1 is))
      | inr off ↦ elim (fine.used j (sym (beside.kinds j off.1) ∙ is)) [
        | inl named ↦ inl (subst (λ n. 0 < n) (sym (beside.names j off.1)) named)
        | inr open_there ↦ inr (beside.opens j off.1 open_there)
      ]
    ];
  }
