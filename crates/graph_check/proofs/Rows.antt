-- The rows of the tables, and the graph.
use Rattle.std.proofs.Common.{◌≡◌, ◌≢◌, ℕ, ◌+◌, ◌<◌, ◌≤◌, ◌==◌, refl, Some, None, Option, ap, sym, ◌∙◌, subst, true, false, Bool, arith, if◌then◌else◌}
use Rattle.std.specs.Prelude.{◌&&◌, nat_le, option_map}
use Rattle.record_validation.specs.file_graph.Graph.{Graph, Node, FileBody, DirBody}
use Rattle.record_validation.specs.file_graph.declared.effect.Kind.{Kind}
use Rattle.record_validation.specs.file_graph.declared.effect.Kind.TheVariants.{File, Directory}
use Rattle.record_validation.specs.call_effects.Effects.{stored_count}
use Rattle.record_validation.specs.call_effects.Wholes.{kind_of, body_kind, one_if}
use Rattle.record_validation.specs.call_effects.NodeView.{view_of_body, view_of_node, view_at}
use Rattle.record_validation.specs.log_record.Grammar.{IsInode}
use Rattle.graph_check.specs.declared.defect.Defect.{Defect}
use Rattle.graph_check.specs.declared.defect.Defect.TheVariants as defect
use Rattle.graph_check.specs.declared.tables.NodeHead.{NodeHead}
use Rattle.graph_check.specs.declared.defect.Finding.{Finding}
use Rattle.graph_check.specs.declared.tables.NameCount.{NameCount}
use Rattle.graph_check.specs.declared.tables.Row.{Row}
use Rattle.graph_check.specs.Defects.{HasStrayEntry, HasDefect, HasDirectory, counted_names}
use Rattle.graph_check.specs.Marks.{is_directory}
use Rattle.graph_check.specs.Rows.{IsCountDefect, total_names}
use Rattle.graph_check.specs.Tables.{named_by, name_count, head_at, head_of, row_of, head_kind, stored_names}
use Rattle.graph_check.proofs.Sums.{last_there, IsLast}
use Rattle.graph_check.proofs.Views.{Naming, naming}
use Rattle.graph_check.proofs.Views as views

-- ---- what stands

in_range : (i : ℕ) → 1 ≤ i → i ≤ 1024 → (nat_le 1 i && nat_le i 1024) ≡ true
in_range i low high = grind arith

pub head_is : (g : Graph) (i : ℕ) → 1 ≤ i → i ≤ 1024 → head_at g 1024 i ≡ option_map head_of (view_at g i)
head_is g i low high = ap (λ b. if b then option_map head_of (view_at g i) else None) (in_range i low high)

pub nothing_at_0 : (g : Graph) → head_at g 1024 0 ≡ None
nothing_at_0 g = refl

kind_node : (o : Option Node) → head_kind (option_map head_of (option_map view_of_node o)) ≡ kind_of o
kind_node None = refl
kind_node (Some n) = elim (n.body) as (λ b. head_kind (Some (head_of (view_of_body n.names b))) ≡ Some (body_kind b)) [ FileBody bytes ↦ refl | DirBody es ↦ refl ]

names_node : (o : Option Node) → stored_names (option_map head_of (option_map view_of_node o)) ≡ stored_count o
names_node None = refl
names_node (Some n) = elim (n.body) as (λ b. stored_names (Some (head_of (view_of_body n.names b))) ≡ n.names) [ FileBody bytes ↦ refl | DirBody es ↦ refl ]

pub kind_is : (g : Graph) (i : ℕ) → IsInode i → head_kind (head_at g 1024 i) ≡ kind_of (g i)
kind_is g i is = ap head_kind (head_is g i is.0 is.1) ∙ kind_node (g i)

pub stored_is : (g : Graph) (i : ℕ) → IsInode i → stored_names (head_at g 1024 i) ≡ stored_count (g i)
stored_is g i is = ap stored_names (head_is g i is.0 is.1) ∙ names_node (g i)

pub counted_is : (g : Graph) (i : ℕ) → IsInode i → total_names i (row_of g i) ≡ counted_names g i
counted_is g i is = ap (λ n. n + one_if (i == 1)) (sym (views.names_split g i is.0 is.1))

-- ---- what is wrong with a row is wrong with the graph

-- what is named as another kind is a stray entry of the last directory that names it so
pub stray : (g : Graph) (k : Kind) (i : ℕ) → i ≤ 1024 → 0 < (name_count g 1024 k i).count → head_kind (head_at g 1024 i) ≢ Some k → HasStrayEntry g (name_count g 1024 k i).last
stray g k i high some other =
    let f : ℕ → ℕ = λ d. named_by k i (view_at g d) in
    let last : IsLast 1024 f = last_there 1024 f some in
    let e : Naming g (name_count g 1024 k i).last k i = naming g (name_count g 1024 k i).last k i last.here in
    record {
      names = e.names;
      entries = e.entries;
      is = e.is;
      name = e.name;
      entry = e.entry;
      there = e.there;
      stray = λ inode fact.
          let here : e.entry.0 ≡ i = sym (views.place_inode e.entry.0 inode.1) ∙ e.place in
          other (subst (λ j. head_kind (head_at g 1024 j) ≡ Some k) here (kind_is g e.entry.0 inode ∙ fact ∙ ap (λ x. Some x) e.kind));
    }

pub count_defect : (g : Graph) (i : ℕ) (defect : Defect) → IsInode i → IsCountDefect i (row_of g i) defect → HasDefect g i defect
count_defect g i defect.NoRoot is wrong = absurd wrong
count_defect g i defect.StrayEntry is wrong = absurd wrong
count_defect g i defect.WrongCount is wrong = λ same. wrong (stored_is g i is ∙ same ∙ sym (counted_is g i is))
count_defect g i defect.NotOneName is wrong = (sym (kind_is g i is) ∙ wrong.0, λ one. wrong.1 (stored_is g i is ∙ one))
count_defect g i defect.Unreachable is wrong = absurd wrong

-- ---- as the tests see a row

pub is_dir : (s : Option NodeHead) → head_kind s ≡ Some Directory → is_directory s ≡ true
is_dir None is = absurd (cc)
is_dir (Some s) is = elim (s.kind) as (λ k. Some k ≡ Some Directory → (elim k [ File ↦ false | Directory ↦ true ]) ≡ true) [ File ↦ λ h. absurd (cc) | Directory ↦ λ h. refl ] is

pub dir_is : (s : Option NodeHead) → is_directory s ≡ true → head_kind s ≡ Some Directory
dir_is None is = absurd (cc)
dir_is (Some s) is = elim (s.kind) as (λ k. (elim k [ File ↦ false | Directory ↦ true ]) ≡ true → Some k ≡ Some Directory) [ File ↦ λ h. absurd (cc) | Directory ↦ λ h. refl ] is

pub row_directory : (g : Graph) (i : ℕ) (row : Row) (r : Bool) → IsInode i → row ≡ row_of g i → r ≡ is_directory row.head → r ≡ true → HasDirectory g i
row_directory g i row r is row_is fact yes_ = sym (kind_is g i is) ∙ dir_is (head_at g 1024 i) (ap (λ (x : Row). is_directory x.head) (sym row_is) ∙ sym fact ∙ yes_)

pub row_none : (g : Graph) (i : ℕ) (row : Row) (r : Bool) → IsInode i → row ≡ row_of g i → r ≡ is_directory row.head → r ≡ false → HasDirectory g i → ⊥
row_none g i row r is row_is fact no_ dir =
    let t : true ≡ false = sym (is_dir (head_at g 1024 i) (kind_is g i is ∙ dir)) ∙ ap (λ (x : Row). is_directory x.head) (sym row_is) ∙ sym fact ∙ no_ in
    absurd (cc)

pub count_finding : (g : Graph) (i : ℕ) (row : Row) (f : Finding) → IsInode i → row ≡ row_of g i → (f.inode ≡ i) × IsCountDefect i row f.defect → HasDefect g f.inode f.defect
count_finding g i row f is row_is wrong = subst (λ j. HasDefect g j f.defect) (sym wrong.0) (count_defect g i f.defect is (subst (λ r. IsCountDefect i r f.defect) row_is wrong.1))

pub entry_finding : (g : Graph) (k : Kind) (i : ℕ) (row : Row) (n : NameCount) (f : Finding) → i ≤ 1024 → row ≡ row_of g i → n ≡ name_count g 1024 k i → 0 < n.count → head_kind row.head ≢ Some k → f ≡ record { inode = n.last; defect = defect.StrayEntry } → HasDefect g f.inode f.defect
entry_finding g k i row n f high row_is n_is some other is =
    subst (λ (x : Finding). HasDefect g x.inode x.defect) (sym is)
    (subst (λ (m : NameCount). HasStrayEntry g m.last) (sym n_is)
    (stray g k i high (subst (λ (m : NameCount). 0 < m.count) n_is some) (λ e. other (ap (λ (x : Row). head_kind x.head) row_is ∙ e))))
