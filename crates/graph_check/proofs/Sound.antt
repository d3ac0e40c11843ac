-- A graph whose rows pass is typed and counted.
use Rattle.std.proofs.Common.{◌≡◌, inl, inr, ℕ, ◌<◌, ◌≤◌, ◌==◌, List, refl, ◌⊎◌, Some, None, Option, ap, sym, ◌∙◌, subst, true, arith}
use Rattle.std.specs.Prelude.{option_map, count_by}
use Rattle.std.proofs.lemmas.Bool.Decides.{eqb_tells}
use Rattle.std.proofs.Math.Decide.{dec_le}
use Rattle.std.specs.Ordering.{nat_cmp}
use Rattle.std.specs.Cmp.Lexicographic.{slice_cmp}
use Rattle.std.specs.FinMap as fin
use Rattle.posix_calls.specs.Content.{Entries}
use Rattle.posix_calls.specs.Tree.{names_of, names_in, sum_up_to}
use Rattle.record_validation.specs.file_graph.Graph.{Graph, Node, FileBody, DirBody}
use Rattle.record_validation.specs.file_graph.declared.effect.Kind.{Kind}
use Rattle.record_validation.specs.file_graph.declared.effect.Kind.TheVariants.{File, Directory}
use Rattle.record_validation.specs.call_effects.Effects.{stored_count}
use Rattle.record_validation.specs.call_effects.ClosedGraph.{nobody}
use Rattle.record_validation.specs.call_effects.Wholes.{tree_of, tree_node, kind_of, body_kind, one_if, without_kinds, IsTyped, IsCounted}
use Rattle.record_validation.specs.call_effects.NodeView.{view_at}
use Rattle.record_validation.specs.log_record.Grammar.{IsInode}
use Rattle.record_validation.proofs.call_effects_lemmas.Inodes.{get_inodes}
use Rattle.posix_calls.proofs.Sums.{all_zero}
use Rattle.graph_check.specs.Defects.{HasInodesAlone, HasDirectory}
use Rattle.graph_check.specs.Rows.{EntriesFit, CountsFit}
use Rattle.graph_check.specs.Tables.{named_by, name_count, head_at, head_kind, place_of}
use Rattle.graph_check.proofs.Entries.{Found, counted_there}
use Rattle.graph_check.proofs.Rows.{kind_is, stored_is, counted_is}
use Rattle.graph_check.proofs.Sums.{term_below}
use Rattle.graph_check.proofs.Views.{named_there, place_inode, place_other, place_within, is_true, eq_is}

-- ---- an entry of an inode names a node of its kind

pub record Names (g : Graph) (e : ℕ × Kind) : Type 0 where
  pub inode : IsInode e.0
  pub kind : kind_of (g e.0) ≡ Some e.1

fits_kind : (g : Graph) → EntriesFit g → (k : Kind) (i : ℕ) → i ≤ 1024 → 0 < (name_count g 1024 k i).count → head_kind (head_at g 1024 i) ≡ Some k
fits_kind g fit File i high some = (fit i high).files some
fits_kind g fit Directory i high some = (fit i high).directories some

-- a place at which something stands is an inode's own
own_place : (g : Graph) (n : ℕ) (k : Kind) → head_kind (head_at g 1024 (place_of n)) ≡ Some k → (place_of n ≡ n) × IsInode n
own_place g n k is = elim (dec_le n 1024) [
  | yes high ↦
      let same = place_inode n high in
      let here : head_kind (head_at g 1024 n) ≡ Some k = subst (λ j. head_kind (head_at g 1024 j) ≡ Some k) same is in
      elim (dec_le 1 n) [
        | yes low ↦ (same, (low, high))
        | no none ↦
            let zero : n ≡ 0 = omega (arith, none) in
            let clash : None ≡ Some k = subst (λ j. head_kind (head_at g 1024 j) ≡ Some k) zero here in
            absurd (cc)
      ]
  | no above ↦
      let clash : None ≡ Some k = subst (λ j. head_kind (head_at g 1024 j) ≡ Some k) (place_other n (omega (arith, above))) is in
      absurd (cc)
]

pub entry_counts : (g : Graph) (p n : ℕ) (es : Entries (ℕ × Kind)) (name : List ℕ) (e : ℕ × Kind) → IsInode p → g p ≡ Some (record { names = n; body = DirBody es }) → fin.get es name ≡ Some e → 0 < (name_count g 1024 e.1 (place_of e.0)).count
entry_counts g p n es name e inode is there =
    let f : ℕ → ℕ = λ d. named_by e.1 (place_of e.0) (view_at g d) in
    let one : 0 < f p = named_there g p n es name e is there in
    let all : f p ≤ sum_up_to 1024 f = term_below 1024 f p inode.0 inode.1 in
    omega (arith, one, all)

pub entry_names : (g : Graph) → EntriesFit g → (p n : ℕ) (es : Entries (ℕ × Kind)) (name : List ℕ) (e : ℕ × Kind) → IsInode p → g p ≡ Some (record { names = n; body = DirBody es }) → fin.get es name ≡ Some e → Names g e
entry_names g fit p n es name e inode is there =
    let what = fits_kind g fit e.1 (place_of e.0) (place_within e.0) (entry_counts g p n es name e inode is there) in
    let own = own_place g e.0 e.1 what in
    record { inode = own.1; kind = sym (kind_is g e.0 own.1) ∙ subst (λ j. head_kind (head_at g 1024 j) ≡ Some e.1) own.0 what }

pub typed : (g : Graph) → HasInodesAlone g → HasDirectory g 1 → EntriesFit g → IsTyped g nobody
typed g alone root fit = record {
  kinds = λ p n es name e is there. (entry_names g fit p n es name e (alone p Directory (ap kind_of is)) is there).kind;
  numbers = alone;
  root = root;
  opened = λ c n o is. absurd (cc);
  in_range = λ c n o is. absurd (cc);
}

-- ---- stored_count counts

pub first_of_pair : (o : Option (ℕ × Kind)) (i : ℕ) → option_map (λ (e : ℕ × Kind). e.0) o ≡ Some i → (e : ℕ × Kind) × (o ≡ Some e) × (e.0 ≡ i)
first_of_pair None i is = absurd (cc)
first_of_pair (Some e) i is = (e, refl, (let same : e.0 ≡ i = cc in same))

sorted_tree : (m : Entries ℕ) → fin.is_sorted (slice_cmp nat_cmp) (fin.entries m) ≡ true
sorted_tree m = is_true (fin.is_sorted (slice_cmp nat_cmp) (fin.entries m)) (fin.entries_sorted m)

-- where no entry names an inode, none is counted
unnamed_list : (i : ℕ) (es : Entries (ℕ × Kind)) → ((name : List ℕ) (e : ℕ × Kind) → fin.get es name ≡ Some e → e.0 ≡ i → ⊥) → count_by (λ e. e.1 == i) (fin.entries (without_kinds es)) ≡ 0
unnamed_list i es none =
    let n = count_by (λ e. e.1 == i) (fin.entries (without_kinds es)) in
    elim (dec_le 1 n) [
      | yes some ↦
          let f : Found (λ j. j == i) (fin.entries (without_kinds es)) = counted_there (λ j. j == i) (fin.entries (without_kinds es)) (sorted_tree (without_kinds es)) (omega (arith, some)) in
          let e = first_of_pair (fin.get es f.name) f.value (sym (get_inodes es f.name) ∙ fin.get-entries (without_kinds es) f.name ∙ f.there) in
          absurd (none f.name e.0 e.1 (e.2 ∙ eq_is f.value i f.passes))
      | no off ↦ omega (arith, off)
    ]

unnamed_node : (i : ℕ) (o : Option Node) → ((n : ℕ) (es : Entries (ℕ × Kind)) (name : List ℕ) (e : ℕ × Kind) → o ≡ Some (record { names = n; body = DirBody es }) → fin.get es name ≡ Some e → e.0 ≡ i → ⊥) → names_in i (option_map tree_node o) ≡ 0
unnamed_node i None none = refl
unnamed_node i (Some n) none = elim (n.body) as (λ b. ((es : Entries (ℕ × Kind)) (name : List ℕ) (e : ℕ × Kind) → b ≡ DirBody es → fin.get es name ≡ Some e → e.0 ≡ i → ⊥) → names_in i (option_map tree_node (Some (record { names = n.names; body = b }))) ≡ 0) [
  | FileBody bytes ↦ λ off. refl
  | DirBody es ↦ λ off. unnamed_list i es (λ name e there here. off es name e refl there here)
] (λ es name e is there here. none n.names es name e (ap (λ b. Some (record { names = n.names; body = b })) is) there here)

no_node : (g : Graph) → HasInodesAlone g → (i : ℕ) → ¬ (IsInode i) → (o : Option Node) → g i ≡ o → o ≡ None
no_node g alone i off None is = refl
no_node g alone i off (Some n) is = absurd (off (alone i (body_kind n.body) (ap kind_of is)))

-- what is no inode has no name
unnamed : (g : Graph) → IsTyped g nobody → HasInodesAlone g → (i : ℕ) → ¬ (IsInode i) → names_of (tree_of g) i ≡ 0
unfolding names_of
unnamed g types alone i off = all_zero 1024 (λ d. names_in i (tree_of g d)) (λ d. unnamed_node i (g d) (λ n es name e is there here. off (subst (λ j. IsInode j) here (alone e.0 e.1 (types.kinds d n es name e is there)))))

is_inode : (i : ℕ) → (IsInode i) ⊎ (¬ (IsInode i))
is_inode i = elim (dec_le 1 i) [
  | yes low ↦ elim (dec_le i 1024) [ yes high ↦ inl (low, high) | no above ↦ inr (λ is. above is.1) ]
  | no below ↦ inr (λ is. below is.0)
]

root_inode : IsInode 1
root_inode = (omega arith, omega arith)

off_root : (i : ℕ) → ¬ (IsInode i) → one_if (i == 1) ≡ 0
off_root i off = elim (eqb_tells i 1) [
  | inl same ↦ absurd (off (subst (λ j. IsInode j) (sym same.1) root_inode))
  | inr apart ↦ ap one_if apart.0
]

pub counts : (g : Graph) → IsTyped g nobody → HasInodesAlone g → CountsFit g → IsCounted g
counts g types alone fit = record {
  counted = λ i. elim (is_inode i) [
    | inl is ↦ sym (stored_is g i is) ∙ (fit i is).counted ∙ counted_is g i is
    | inr off ↦
        let none : stored_count (g i) ≡ 0 = ap stored_count (no_node g alone i off (g i) refl) in
        let names = unnamed g types alone i off in
        let root = off_root i off in
        omega (arith, none, names, root)
  ];
  one_name = λ i dir. let is = alone i Directory dir in sym (stored_is g i is) ∙ (fit i is).one_name (kind_is g i is ∙ dir);
}
