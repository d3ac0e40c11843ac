-- The graph of a root alone is sound, stands for the empty tree, and is within the limits.
use Rattle.std.proofs.Common.{◌≡◌, ℕ, ◌+◌, List, [], true, false, Bool, refl, Some, None, Ok, ap, sym, ◌∙◌, arith, cond, ◌==◌, inl, inr, subst}
use Rattle.std.specs.Prelude.{option_map}
use Rattle.std.specs.FinMap as fin
use Rattle.std.specs.Ordering.{nat_cmp}
use Rattle.std.specs.Cmp.Lexicographic.{slice_cmp}
use Rattle.std.proofs.lemmas.Bool.Decides.{eqb_tells}
use Rattle.posix_calls.specs.Content.{Entries}
use Rattle.posix_calls.specs.Tree.{Descriptors, names_in, names_of, is_open}
use Rattle.posix_calls.specs.EmptyTree.{empty_state}
use Rattle.posix_calls.specs.Tree as tree
use Rattle.posix_calls.specs.Resolve.{resolve, resolve_from}
use Rattle.posix_calls.specs.WellFormed.{IsDirectory, IsWithinLimits}
use Rattle.posix_calls.proofs.Bounds.{opening_within}
use Rattle.posix_calls.proofs.Sums.{all_zero}
use Rattle.posix_calls.proofs.Counts.{counted, counted_is, counted_empty}
use Rattle.log_record.specs.file_graph.Graph.{Node, DirBody, fresh}
use Rattle.log_record.specs.file_graph.declared.effect.Kind.{Kind}
use Rattle.log_record.specs.file_graph.declared.effect.Kind.TheVariants as kind
use Rattle.call_effects.specs.Effects.{stored_count}
use Rattle.call_effects.specs.Wholes.{tree_of, tree_node, keep, state_of, kind_of, one_if, without_kinds, IsSound}
use Rattle.call_effects.proofs.Inodes.{inodes_empty}
use Rattle.call_effects.proofs.Changes.{named, dir}

no_names_in : (b : Bool) (j : ℕ) → names_in j (option_map tree_node (cond b (dir 1 fin.empty) None)) ≡ 0
no_names_in true j = counted_is j (without_kinds fin.empty) ∙ ap (counted j) inodes_empty ∙ counted_empty j
no_names_in false j = refl

no_named : (j : ℕ) → named fresh j ≡ 0
unfolding names_of
no_named j = all_zero 1024 (λ i. names_in j (option_map tree_node (cond (i == 1) (dir 1 fin.empty) None))) (λ i. no_names_in (i == 1) j)

stored_fresh : (b : Bool) → stored_count (cond b (dir 1 fin.empty) None) ≡ one_if b
stored_fresh true = refl
stored_fresh false = refl

kind_fresh : (b : Bool) (k : Kind) → kind_of (cond b (dir 1 fin.empty) None) ≡ Some k → b ≡ true
kind_fresh true k e = refl
kind_fresh false k e = absurd (cc)

entry_fresh : (b : Bool) (n : ℕ) (es : Entries (ℕ × Kind)) (name : List ℕ) (e : ℕ × Kind) → cond b (dir 1 fin.empty) None ≡ dir n es → fin.get es name ≡ Some e → ⊥
entry_fresh true n es name e is there =
    let bodies : Some (DirBody fin.empty) ≡ Some (DirBody es) = ap (option_map (λ (x : Node). x.body)) is in
    let empty : fin.empty ≡ es = cc in
    let none : fin.get es name ≡ None = ap (λ m. fin.get m name) (sym empty) ∙ fin.get-empty (slice_cmp nat_cmp) name in cc
entry_fresh false n es name e is there = let clash : None ≡ Some (kind.Directory) = ap kind_of is in absurd (cc)

is_one : (i : ℕ) → (i == 1) ≡ true → i ≡ 1
is_one i e = elim (eqb_tells i 1) [ inl same ↦ same.1 | inr off ↦ absurd (let clash : true ≡ false = sym e ∙ off.0 in cc) ]

only_root : (b : Bool) → IsDirectory (option_map tree_node (cond b (dir 1 fin.empty) None)) → b ≡ true
only_root true e = refl
only_root false e = absurd (cc)

-- no name leads to the root
at_root : (i : ℕ) → i ≡ 1 → resolve (tree_of fresh) [] ≡ Ok i
unfolding resolve_from
at_root i one = ap (λ k. Ok k) (sym one)

zero_left : (n : ℕ) → 0 + n ≡ n
zero_left n = omega arith

pub fresh_sound : IsSound fresh (λ c n. None)
fresh_sound = record {
  typed = record {
    kinds = λ p n es name e is there. absurd (entry_fresh (p == 1) n es name e is there);
    numbers = λ i k is. let one = is_one i (kind_fresh (i == 1) k is) in (omega (arith, one), omega (arith, one));
    root = refl;
    opened = λ c n o is. absurd (cc);
    in_range = λ c n o is. absurd (cc);
  };
  counts = record {
    counted = λ i. stored_fresh (i == 1) ∙ sym (ap (λ x. x + one_if (i == 1)) (no_named i) ∙ zero_left (one_if (i == 1)));
    one_name = λ i is. ap (λ b. stored_count (cond b (dir 1 fin.empty) None)) (kind_fresh (i == 1) kind.Directory is);
  };
  reached = λ i is. ([], at_root i (is_one i (only_root (i == 1) is)));
}

-- a directory is kept
kept_fresh : (open_there b : Bool) → option_map tree_node (keep open_there (cond b (dir 1 fin.empty) None)) ≡ cond b (Some (tree.Dir fin.empty)) None
kept_fresh open_there true = ap (λ m. Some (tree.Dir m)) inodes_empty
kept_fresh open_there false = refl

abbrev nobody : Descriptors
nobody c n = None

pub fresh_state : state_of fresh nobody ≡ empty_state
fresh_state = λ t. record { tree = λ i. kept_fresh (is_open nobody i) (i == 1) t; descriptors = nobody }

tree_fresh : (b : Bool) → option_map tree_node (cond b (dir 1 fin.empty) None) ≡ cond b (Some (tree.Dir fin.empty)) None
tree_fresh true = ap (λ m. Some (tree.Dir m)) inodes_empty
tree_fresh false = refl

same_tree : tree_of fresh ≡ empty_state.tree
same_tree = λ t i. tree_fresh (i == 1) t

pub fresh_within : IsWithinLimits (tree_of fresh)
fresh_within = subst IsWithinLimits (sym same_tree) opening_within
