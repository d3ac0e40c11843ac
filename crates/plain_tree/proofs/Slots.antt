-- Nodes in a list, as the tree of them.
use Rattle.std.proofs.Common.{◌≡◌, ℕ, zero, suc, ◌<◌, ◌≤◌, List, [], ◌∷◌, ◌++◌, length, get_or, set, Option, None, refl, sym, ap, ◌∙◌, inl, inr, arith}
use Rattle.std.proofs.lemmas.Bool.{cases_eq}
use Rattle.std.proofs.lemmas.List.{get_or-set_same, get_or-set_other, get_or_past, get_or_default}
use Rattle.posix_calls.specs.Tree.{Node, Tree, set_node}
use Rattle.posix_calls.proofs.Changes.{set_there, set_other}
use Rattle.plain_tree.specs.Plain.{stored_tree}

-- the default at the end changes nothing
pub pushed_at : {A : Type 0} (xs : List A) (d : A) (i : ℕ) → get_or (xs ++ d ∷ []) i d ≡ get_or xs i d
pushed_at [] d zero = refl
pushed_at [] d (suc i) = refl
pushed_at (x ∷ xs) d zero = refl
pushed_at (x ∷ xs) d (suc i) = pushed_at xs d i

-- nothing at the end changes nothing
pub tree_pushed : (nodes : List (Option Node)) → stored_tree (nodes ++ None ∷ []) ≡ stored_tree nodes
tree_pushed nodes = λ k i. pushed_at nodes None i k

there : (t : Tree) (j i : ℕ) (x : Option Node) → j ≡ i → x ≡ set_node t i x j
there t j i x same = sym (set_there t i x) ∙ ap (set_node t i x) (sym same)

set_at : (nodes : List (Option Node)) (i : ℕ) (x : Option Node) (j : ℕ) → i < length nodes → stored_tree (set nodes i x) j ≡ set_node (stored_tree nodes) i x j
set_at nodes i x j within =
    elim (cases_eq j i) [
      | inl same ↦ ap (λ (n : ℕ). get_or (set nodes i x) n None) same ∙ get_or-set_same nodes i x None within ∙ there (stored_tree nodes) j i x same
      | inr apart ↦ get_or-set_other nodes i j x None apart ∙ sym (set_other (stored_tree nodes) i j x apart)
    ]

-- what is put in a place is at that inode
pub tree_set : (nodes : List (Option Node)) (i : ℕ) (x : Option Node) → i < length nodes → stored_tree (set nodes i x) ≡ set_node (stored_tree nodes) i x
tree_set nodes i x within = λ k j. set_at nodes i x j within k

past_at : (nodes : List (Option Node)) (i j : ℕ) → length nodes ≤ i → stored_tree nodes j ≡ set_node (stored_tree nodes) i None j
past_at nodes i j past =
    elim (cases_eq j i) [
      | inl same ↦ get_or_past nodes j None (omega arith) ∙ there (stored_tree nodes) j i None same
      | inr apart ↦ sym (set_other (stored_tree nodes) i j None apart)
    ]

-- past the end there is nothing to take away
pub tree_past : (nodes : List (Option Node)) (i : ℕ) → length nodes ≤ i → stored_tree nodes ≡ set_node (stored_tree nodes) i None
tree_past nodes i past = λ k j. past_at nodes i j past k

-- what is made of a node in its place, from what was read there
pub tree_written : (nodes : List (Option Node)) (t : Tree) (i : ℕ) (f : Option Node → Option Node) (old new : Option Node) → i < length nodes → stored_tree nodes ≡ t → old ≡ get_or nodes i old → new ≡ f old → stored_tree (set nodes i new) ≡ set_node t i (f (t i))
tree_written nodes t i f old new within tree read is =
    let was : old ≡ t i = read ∙ get_or_default nodes i old None within ∙ ap (λ (u : Tree). u i) tree in
    tree_set nodes i new within
    ∙ ap (λ (u : Tree). set_node u i new) tree
    ∙ ap (set_node t i) (is ∙ ap f was)
