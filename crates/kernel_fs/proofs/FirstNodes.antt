-- Which inodes are nodes, one after the other.
use Rattle.std.proofs.Common.{◌≡◌, inl, inr, ℕ, ◌+◌, ◌<◌, ◌≤◌, ◌||◌, Bool, true, false, Option, Some, None, refl, ap, sym, ◌∙◌, arith}
use Rattle.std.specs.Prelude.{is_some, option_map}
use Rattle.std.proofs.Math.Decide.{dec_le}
use Rattle.std.proofs.lemmas.Bool.Decides.{eqb_tells, nat_tests}
use Rattle.world_invariant.specs.file_graph.Graph.{Graph, Node}
use Rattle.migrator.specs.layout.Places.{Sizes, is_inode}
use Rattle.world_invariant.specs.call_effects.NodeView.{view_of_node}
use Rattle.migrator.specs.record_validation.Counts.{counts_of}
use Rattle.migrator.specs.area_reader.Store.{Store, graph}
use Rattle.migrator.proofs.shared_area_lemmas.Entries.{no_view}
use Rattle.world_invariant.specs.LeaseSteps.{also}
use Rattle.kernel_fs.specs.Nodes.{AreNodes, is_node}
use Rattle.kernel_fs.specs.NodeScan.{AreNodesBelow}

pub no_node : (o : Option Node) → None ≡ option_map view_of_node o → is_node o ≡ false
no_node None view = refl
no_node (Some n) view = absurd (cc view)

-- where a node stands, it has numbers
pub counted_node : (o : Option Node) → is_some (option_map counts_of (option_map view_of_node o)) ≡ is_node o
counted_node None = refl
counted_node (Some n) = refl

module _ (g : Sizes) (s : Store) where
  outside : (i : ℕ) → is_inode i ≡ false → is_node (graph g s i) ≡ false
  outside i none = no_node (graph g s i) (no_view g s i none)

  pub begins : (nodes : ℕ → Bool) → ((i : ℕ) → nodes i ≡ false) → AreNodesBelow (graph g s) 1 nodes
  begins nodes none = record {
    below = λ i low. none i ∙ sym (outside i (low_out i low));
    others = λ i high. none i;
  }
    where
      low_out : (i : ℕ) → i < 1 → is_inode i ≡ false
      low_out i low = grind (arith, nat_tests)

  pub ends : (end : ℕ) (nodes : ℕ → Bool) → 1025 ≤ end → AreNodesBelow (graph g s) end nodes → AreNodes (graph g s) nodes
  ends end nodes all are i = elim (dec_le end i) [
    | yes past ↦ are.others i past ∙ sym (outside i (high_out i (omega (arith, past, all))))
    | no before ↦ are.below i (omega (arith, before))
  ]
    where
      high_out : (j : ℕ) → 1025 ≤ j → is_inode j ≡ false
      high_out j high = grind (arith, nat_tests)

module _ (g : Graph) (end : ℕ) (nodes : ℕ → Bool) (are : AreNodesBelow g end nodes) where
  -- the next one is a node, and is put in
  pub one_more : (after : ℕ → Bool) → is_node (g end) ≡ true → ((i : ℕ) → after i ≡ also nodes end i) → AreNodesBelow g (end + 1) after
  one_more after is more = record {
    below = λ i low. elim (eqb_tells i end) [
      | inl same ↦ more i ∙ ap (λ b. b || nodes i) same.0 ∙ sym (ap (λ k. is_node (g k)) same.1 ∙ is)
      | inr other ↦ more i ∙ ap (λ b. b || nodes i) other.0 ∙ are.below i (omega (arith, low, other.1))
    ];
    others = λ i high. elim (eqb_tells i end) [
      | inl same ↦ absurd (omega (arith, high, same.1))
      | inr other ↦ more i ∙ ap (λ b. b || nodes i) other.0 ∙ are.others i (omega (arith, high))
    ];
  }

  -- it is none
  pub one_less : is_node (g end) ≡ false → AreNodesBelow g (end + 1) nodes
  one_less none = record {
    below = λ i low. elim (eqb_tells i end) [
      | inl same ↦ are.others i (omega (arith, same.1)) ∙ sym (ap (λ k. is_node (g k)) same.1 ∙ none)
      | inr other ↦ are.below i (omega (arith, low, other.1))
    ];
    others = λ i high. are.others i (omega (arith, high));
  }
