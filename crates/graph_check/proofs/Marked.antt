-- Marks and paths: what is marked is reached, and what is not marked in the end is not.
use Rattle.std.proofs.Common.{◌≡◌, ℕ, zero, suc, ◌+◌, ◌<◌, ◌≤◌, ◌==◌, List, [], ◌∷◌, ◌++◌, refl, Some, None, Option, Ok, ap, sym, ◌∙◌, subst, true, false, Bool, arith, if◌then◌else◌}
use Rattle.std.specs.Prelude.{◌&&◌, nat_le, nat_lt, option_map}
use Rattle.std.specs.FinMap as fin
use Rattle.posix_calls.specs.Content.{Entries}
use Rattle.posix_calls.specs.Tree.{Tree, entries_of, sum_up_to}
use Rattle.posix_calls.specs.Tree as tree
use Rattle.posix_calls.specs.Resolve.{resolve}
use Rattle.posix_calls.specs.WellFormed.{IsDirectory}
use Rattle.record_validation.specs.file_graph.Graph.{Graph, Node, FileBody, DirBody}
use Rattle.record_validation.specs.file_graph.declared.effect.Kind.{Kind}
use Rattle.record_validation.specs.file_graph.declared.effect.Kind.TheVariants.{File, Directory}
use Rattle.record_validation.specs.call_effects.Wholes.{tree_of, tree_node, kind_of, one_if, AreReached}
use Rattle.record_validation.specs.call_effects.NodeView.{view_at}
use Rattle.record_validation.specs.log_record.Grammar.{IsInode}
use Rattle.record_validation.proofs.call_effects_lemmas.Inodes.{get_inodes}
use Rattle.record_validation.proofs.call_effects_lemmas.Ways.{paths}
use Rattle.posix_calls.proofs.Changes.{no_entry}
use Rattle.posix_calls.proofs.Reached.{Edge, Chain, path_chain}
use Rattle.graph_check.specs.Defects.{HasInodesAlone, HasDirectory}
use Rattle.graph_check.specs.Marks.{is_directory, parent, is_marked, Climbs, AllClimb, IsClosed}
use Rattle.graph_check.specs.Rows.{EntriesFit, CountsFit}
use Rattle.graph_check.specs.Tables.{named_by, name_count, head_at, head_of, head_kind, stored_names, place_of, row_of}
use Rattle.graph_check.proofs.Entries.{both}
use Rattle.graph_check.proofs.Rows.{kind_is, is_dir}
use Rattle.graph_check.proofs.Sound.{entry_names, first_of_pair}
use Rattle.graph_check.proofs.Sums.{last_there, last_only, term_below, IsLast}
use Rattle.graph_check.proofs.Views.{Naming, naming, named_there, place_inode}

-- ---- directories, in the graph and in its tree

node_dir : (o : Option Node) → IsDirectory (option_map tree_node o) → kind_of o ≡ Some Directory
node_dir None is = absurd (cc)
node_dir (Some n) is = elim (n.body) as (λ b. IsDirectory (option_map tree_node (Some (record { names = n.names; body = b }))) → kind_of (Some (record { names = n.names; body = b })) ≡ Some Directory) [ FileBody bytes ↦ λ h. absurd (cc) | DirBody es ↦ λ h. refl ] is

pub dir_node : (o : Option Node) → kind_of o ≡ Some Directory → IsDirectory (option_map tree_node o)
dir_node None is = absurd (cc)
dir_node (Some n) is = elim (n.body) as (λ b. kind_of (Some (record { names = n.names; body = b })) ≡ Some Directory → IsDirectory (option_map tree_node (Some (record { names = n.names; body = b })))) [ FileBody bytes ↦ λ h. absurd (cc) | DirBody es ↦ λ h. refl ] is

-- ---- edges

-- an edge of the tree is an entry of a directory
record IsEntry (g : Graph) (a c : ℕ) : Type 0 where
  names : ℕ
  entries : Entries (ℕ × Kind)
  is : g a ≡ Some (record { names = names; body = DirBody entries })
  name : List ℕ
  entry : ℕ × Kind
  there : fin.get entries name ≡ Some entry
  here : entry.0 ≡ c

edge_node : (o : Option Node) (name : List ℕ) (c : ℕ) → fin.get (entries_of (option_map tree_node o)) name ≡ Some c → (g : Graph) (a : ℕ) → g a ≡ o → IsEntry g a c
edge_node None name c there g a is = absurd (no_entry name c there)
edge_node (Some n) name c there g a is = elim (n.body) as (λ b. fin.get (entries_of (option_map tree_node (Some (record { names = n.names; body = b })))) name ≡ Some c → g a ≡ Some (record { names = n.names; body = b }) → IsEntry g a c) [
  | FileBody bytes ↦ λ e at. absurd (no_entry name c e)
  | DirBody es ↦ λ e at.
      let p = first_of_pair (fin.get es name) c (sym (get_inodes es name) ∙ e) in
      record { names = n.names; entries = es; is = at; name = name; entry = p.0; there = p.1; here = p.2 }
] there is

edge_entry : (g : Graph) (a c : ℕ) → Edge (tree_of g) a c → IsEntry g a c
edge_entry g a c e = edge_node (g a) e.0 c e.1 g a refl

entry_edge : (g : Graph) (a c : ℕ) → IsEntry g a c → Edge (tree_of g) a c
entry_edge g a c e = (e.name, ap (λ o. fin.get (entries_of (option_map tree_node o)) e.name) e.is ∙ get_inodes e.entries e.name ∙ ap (option_map (λ (x : ℕ × Kind). x.0)) e.there ∙ ap (λ j. Some j) e.here)

edge_dir : (g : Graph) (a c : ℕ) → Edge (tree_of g) a c → HasDirectory g a
edge_dir g a c e = ap kind_of (edge_entry g a c e).is

-- ---- the parent that the tables know

stands_inode : (g : Graph) (i : ℕ) → is_directory (head_at g 1024 i) ≡ true → IsInode i
stands_inode g i is = elim (nat_le 1 i && nat_le i 1024) as (λ b. (nat_le 1 i && nat_le i 1024) ≡ b → is_directory (if b then option_map head_of (view_at g i) else None) ≡ true → IsInode i) [
  | true ↦ λ in_range h. (let parts = both (nat_le 1 i) (nat_le i 1024) in_range in (le_is 1 i parts.0, le_is i 1024 parts.1))
  | false ↦ λ off h. absurd (cc)
] refl is where
  le_is : (a b : ℕ) → nat_le a b ≡ true → a ≤ b
  le_is a b h = grind arith

if_some : (b : Bool) (x p : ℕ) → (if b then Some x else None) ≡ Some p → (b ≡ true) × (x ≡ p)
if_some true x p e = (refl, (let same : x ≡ p = cc in same))
if_some false x p e = absurd (cc)

lt_is : (a b : ℕ) → nat_lt a b ≡ true → a < b
lt_is a b h = grind arith

-- it has an entry of its child
parent_edge : (g : Graph) (i p : ℕ) → parent g i ≡ Some p → Edge (tree_of g) p i
parent_edge g i p is =
    let row = row_of g i in
    let found = if_some (is_directory row.head && nat_lt 0 row.directories.count) row.directories.last p is in
    let parts = both (is_directory row.head) (nat_lt 0 row.directories.count) found.0 in
    let f : ℕ → ℕ = λ d. named_by Directory i (view_at g d) in
    let last : IsLast 1024 f = last_there 1024 f (lt_is 0 (name_count g 1024 Directory i).count parts.1) in
    let e : Naming g row.directories.last Directory i = naming g row.directories.last Directory i last.here in
    let inode = stands_inode g i parts.0 in
    subst (λ q. Edge (tree_of g) q i) found.1 (entry_edge g row.directories.last i (record { names = e.names; entries = e.entries; is = e.is; name = e.name; entry = e.entry; there = e.there; here = own e.entry.0 i inode.0 e.place })) where
      own : (n j : ℕ) → 1 ≤ j → place_of n ≡ j → n ≡ j
      own n j low is = elim (nat_le n 1024) as (λ b. (if b then n else 0) ≡ j → n ≡ j) [ true ↦ λ h. h | false ↦ λ h. absurd (omega arith) ] is

-- ---- what is marked is reached

chain_further : (t : tree.Tree) (a : ℕ) (cs : List ℕ) (b c : ℕ) → Chain t a cs b → Edge t b c → Chain t a (cs ++ c ∷ []) c
chain_further t a [] b c way edge = (subst (λ x. Edge t x c) (sym way) edge, refl)
chain_further t a (d ∷ cs) b c way edge = (way.0, chain_further t d cs b c way.1 edge)

climbs_chain : (g : Graph) (n i : ℕ) → Climbs g n i → (cs : List ℕ) × Chain (tree_of g) 1 cs i
climbs_chain g zero i is = ([], sym is)
climbs_chain g (suc n) i (p, up, rest) =
    let way = climbs_chain g n p rest in
    (way.0 ++ i ∷ [], chain_further (tree_of g) 1 way.0 p i way.1 (parent_edge g i p up))

pub all_reached : (g : Graph) (marks : List Bool) → HasInodesAlone g → AllClimb g marks → ((i : ℕ) → IsInode i → HasDirectory g i → is_marked marks i ≡ true) → AreReached (tree_of g)
all_reached g marks alone climb marked = paths (tree_of g) (λ j is.
    let dir = node_dir (g j) is in
    let up = climb j (marked j (alone j Directory dir) dir) in
    climbs_chain g up.0 j up.1)

-- ---- what is not marked is not reached

lt_one : (n : ℕ) → n ≡ 1 → nat_lt 0 n ≡ true
lt_one n is = ap (λ m. nat_lt 0 m) is

-- an entry of a directory is its parent's
child_parent : (g : Graph) → EntriesFit g → CountsFit g → (a c : ℕ) → IsInode a → Edge (tree_of g) a c → HasDirectory g c → IsInode c × (parent g c ≡ Some a)
child_parent g entries counts a c inode edge dir =
    let e = edge_entry g a c edge in
    let fact = entry_names g entries a e.names e.entries e.name e.entry inode e.is e.there in
    let own : IsInode c = subst (λ j. IsInode j) e.here fact.inode in
    let kind : e.entry.1 ≡ Directory = same_some e.entry.1 Directory (sym fact.kind ∙ ap (λ j. kind_of (g j)) e.here ∙ dir) in
    let place : place_of e.entry.0 ≡ c = ap place_of e.here ∙ place_inode c own.1 in
    let f : ℕ → ℕ = λ d. named_by Directory c (view_at g d) in
    let one : 0 < f a = subst (λ k. 0 < named_by k c (view_at g a)) kind (subst (λ j. 0 < named_by e.entry.1 j (view_at g a)) place (named_there g a e.names e.entries e.name e.entry e.is e.there)) in
    let all : f a ≤ sum_up_to 1024 f = term_below 1024 f a inode.0 inode.1 in
    let what : head_kind (head_at g 1024 c) ≡ Some Directory = kind_is g c own ∙ dir in
    let fits = counts c own in
    let stored : stored_names (head_at g 1024 c) ≡ 1 = fits.one_name what in
    let counted : stored_names (head_at g 1024 c) ≡ (name_count g 1024 File c).count + sum_up_to 1024 f + one_if (c == 1) = fits.counted in
    let alone : sum_up_to 1024 f ≡ 1 = omega (arith, one, all, stored, counted) in
    let last = last_only 1024 f a inode.0 inode.1 one alone in
    let some : (is_directory (head_at g 1024 c) && nat_lt 0 (sum_up_to 1024 f)) ≡ true = ap (λ b. b && nat_lt 0 (sum_up_to 1024 f)) (is_dir (head_at g 1024 c) what) ∙ lt_one (sum_up_to 1024 f) alone in
    (own, ap (λ b. if b then Some ((name_count g 1024 Directory c).last) else None) some ∙ ap (λ j. Some j) last) where
      same_some : (x y : Kind) → Some x ≡ Some y → x ≡ y
      same_some x y is = cc

-- where a way leads on to a directory, it comes by directories
way_dir : (g : Graph) (c : ℕ) (cs : List ℕ) (i : ℕ) → Chain (tree_of g) c cs i → HasDirectory g i → HasDirectory g c
way_dir g c [] i way dir = subst (λ j. HasDirectory g j) (sym way) dir
way_dir g c (d ∷ cs) i way dir = edge_dir g c d way.0

module _ (g : Graph) (marks : List Bool) (entries : EntriesFit g) (counts : CountsFit g) (closed : IsClosed g marks) where
  way_marked : (a : ℕ) (cs : List ℕ) (i : ℕ) → IsInode a → is_marked marks a ≡ true → Chain (tree_of g) a cs i → HasDirectory g i → is_marked marks i ≡ true
  way_marked a [] i inode marked way dir = subst (λ j. is_marked marks j ≡ true) way marked
  way_marked a (c ∷ cs) i inode marked way dir =
      let up = child_parent g entries counts a c inode way.0 (way_dir g c cs i way.1 dir) in
      way_marked c cs i up.0 (closed c up.0 a up.1 marked) way.1 dir

  pub not_reached : (i : ℕ) → is_marked marks 1 ≡ true → is_marked marks i ≡ false → HasDirectory g i → (path : List (List ℕ)) → resolve (tree_of g) path ≡ Ok i → ⊥
  not_reached i root unmarked dir path leads =
      let way = path_chain (tree_of g) path 1 i leads in
      let marked = way_marked 1 way.0 i (omega arith, omega arith) root way.1 dir in
      let clash : true ≡ false = sym marked ∙ unmarked in
      absurd (cc)
