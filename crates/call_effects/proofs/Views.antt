-- A sound graph is seen as its tree is, whose names are counted.
use Rattle.std.proofs.Common.{◌≡◌, ◌⊎◌, inl, inr, ℕ, refl, Some, None, Option, cond, ap, sym, ◌∙◌, true, false, Bool, arith, ◌==◌, if◌then◌else◌}
use Rattle.std.specs.Prelude.{option_map, ◌&&◌, not}
use Rattle.std.proofs.lemmas.Bool.Decides.{eqb_tells}
use Rattle.posix_calls.specs.Content.{range}
use Rattle.posix_calls.specs.Tree.{Descriptors, bytes_of, is_open, names_of, names_in, sum_up_to}
use Rattle.log_record.specs.file_graph.Graph.{Graph, Node, FileBody, DirBody}
use Rattle.log_record.specs.file_graph.declared.effect.Kind.TheVariants as kind
use Rattle.posix_calls.specs.Query.{view_of, seen_node, dir_test}
use Rattle.call_effects.specs.Effects.{stored_count}
use Rattle.call_effects.specs.Wholes.{tree_of, tree_node, keep, reachable_graph, kind_of, body_kind, one_if, graph_view, node_is_dir, node_seen, node_bytes}
use Rattle.call_effects.proofs.Changes.{file, named, IsFair}

same_terms : (n : ℕ) (f h : ℕ → ℕ) → ((j : ℕ) → f j ≡ h j) → sum_up_to n f ≡ sum_up_to n h
same_terms n f h same = ap (sum_up_to n) (λ t j. same j t)

lost : (b : Bool) (i : ℕ) (n : Node) → names_in i (option_map tree_node (Some n)) ≡ 0 → names_in i (option_map tree_node (cond b None (Some n))) ≡ names_in i (option_map tree_node (Some n))
lost true i n e = sym e
lost false i n e = refl

-- what is left out held no name
kept_names : (b : Bool) (i : ℕ) (o : Option Node) → names_in i (option_map tree_node (keep b o)) ≡ names_in i (option_map tree_node o)
kept_names b i None = refl
kept_names b i (Some n) = elim (n.body) as (λ y. n.body ≡ y → names_in i (option_map tree_node (elim y [ FileBody bytes ↦ if n.names == 0 && not b then None else Some n | DirBody es ↦ Some n ])) ≡ names_in i (option_map tree_node (Some n))) [
  | FileBody bytes ↦ λ is. lost (n.names == 0 && not b) i n (ap (λ y. names_in i (Some (tree_node (record { names = n.names; body = y })))) is)
  | DirBody es ↦ λ is. refl
] refl

pub kept_named : (g : Graph) (d : Descriptors) (i : ℕ) → names_of (tree_of (reachable_graph g d)) i ≡ named g i
unfolding names_of
kept_named g d i = same_terms 1024 (λ j. names_in i (tree_of (reachable_graph g d) j)) (λ j. names_in i (tree_of g j)) (λ j. kept_names (is_open d j) i (g j))

seen_alike : (b : Bool) (m : ℕ) (o : Option Node) → (kind_of o ≡ Some kind.File → stored_count o ≡ m) → option_map (seen_node m) (option_map tree_node (keep b o)) ≡ option_map node_seen (keep b o)
seen_alike b m None count = refl
seen_alike b m (Some n) count = elim (n.body) as (λ y. (Some (body_kind y) ≡ Some kind.File → n.names ≡ m) → (o : Option Node) → (o ≡ None) ⊎ (o ≡ Some (record { names = n.names; body = y })) → option_map (seen_node m) (option_map tree_node o) ≡ option_map node_seen o) [
  | FileBody bytes ↦ λ is o which. elim which [
    | inl none ↦ ap (λ x. option_map (seen_node m) (option_map tree_node x)) none ∙ sym (ap (option_map node_seen) none)
    | inr some ↦ ap (λ x. option_map (seen_node m) (option_map tree_node x)) some ∙ ap (λ k. option_map (seen_node k) (option_map tree_node (file n.names bytes))) (sym (is refl)) ∙ sym (ap (option_map node_seen) some)
  ]
  | DirBody es ↦ λ is o which. elim which [
    | inl none ↦ ap (λ x. option_map (seen_node m) (option_map tree_node x)) none ∙ sym (ap (option_map node_seen) none)
    | inr some ↦ ap (λ x. option_map (seen_node m) (option_map tree_node x)) some ∙ sym (ap (option_map node_seen) some)
  ]
] count (keep b (Some n)) (which_kept b n) where
  which_of : (c : Bool) (n : Node) → (cond c None (Some n) ≡ None) ⊎ (cond c None (Some n) ≡ Some n)
  which_of true n = inl refl
  which_of false n = inr refl

  which_kept : (b : Bool) (n : Node) → (keep b (Some n) ≡ None) ⊎ (keep b (Some n) ≡ Some n)
  which_kept b n = elim (n.body) as (λ y. (elim y [ FileBody bytes ↦ if n.names == 0 && not b then None else Some n | DirBody es ↦ Some n ] ≡ None) ⊎ (elim y [ FileBody bytes ↦ if n.names == 0 && not b then None else Some n | DirBody es ↦ Some n ] ≡ Some n)) [
    | FileBody bytes ↦ which_of (n.names == 0 && not b) n
    | DirBody es ↦ inr refl
  ]

pub kind_alike : (o : Option Node) → option_map dir_test (option_map tree_node o) ≡ option_map node_is_dir o
kind_alike None = refl
kind_alike (Some n) = elim (n.body) as (λ y. Some (dir_test (tree_node (record { names = n.names; body = y }))) ≡ Some (node_is_dir (record { names = n.names; body = y }))) [ FileBody bytes ↦ refl | DirBody es ↦ refl ]

pub bytes_alike : (o : Option Node) → bytes_of (option_map tree_node o) ≡ node_bytes o
bytes_alike None = refl
bytes_alike (Some n) = elim (n.body) as (λ y. bytes_of (Some (tree_node (record { names = n.names; body = y }))) ≡ node_bytes (Some (record { names = n.names; body = y }))) [ FileBody bytes ↦ refl | DirBody es ↦ refl ]

-- a file is not the root
pub file_count : (g : Graph) (d : Descriptors) (i : ℕ) → IsFair g d → kind_of (g i) ≡ Some kind.File → stored_count (g i) ≡ names_of (tree_of (reachable_graph g d)) i
file_count g d i sound is =
    let root : one_if (i == 1) ≡ 0 = elim (eqb_tells i 1) [
      | inl same ↦ let clash : Some kind.File ≡ Some kind.Directory = sym is ∙ ap (λ j. kind_of (g j)) same.1 ∙ sound.typed.root in absurd (cc)
      | inr off ↦ ap one_if off.0
    ] in
    let count = sound.counted i in
    let same = kept_named g d i in
    omega (arith, root, count, same)

pub views_same : (g : Graph) (d : Descriptors) → IsFair g d → view_of (tree_of (reachable_graph g d)) ≡ graph_view g d
views_same g d sound = λ t. record {
  is_dir = λ i. kind_alike (reachable_graph g d i) t;
  node = λ i. seen_alike (is_open d i) (names_of (tree_of (reachable_graph g d)) i) (g i) (file_count g d i sound) t;
  bytes = λ i at count. ap (range at count) (bytes_alike (reachable_graph g d i)) t;
}
