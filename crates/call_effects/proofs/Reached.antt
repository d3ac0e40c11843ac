-- What of a graph's directories is reached is reached in the tree that is kept of it, and what fits a graph in that tree.
use Rattle.std.proofs.Common.{◌≡◌, ℕ, List, [], refl, Some, None, Option, cond, ap, sym, ◌∙◌, true, false, Bool, ◌==◌, if◌then◌else◌}
use Rattle.std.specs.Prelude.{option_map, ◌&&◌, not}
use Rattle.std.specs.FinMap as fin
use Rattle.posix_calls.specs.Tree.{Tree, Descriptors, entries_of, is_open}
use Rattle.posix_calls.specs.Tree as tree
use Rattle.posix_calls.specs.Query.{dir_test}
use Rattle.posix_calls.specs.WellFormed.{IsDirectory, IsFile}
use Rattle.posix_calls.specs.declared.operation.Location.{Location}
use Rattle.posix_calls.proofs.Changes.{entry, IsBare, bare_file}
use Rattle.posix_calls.proofs.Reached as way
use Rattle.log_record.specs.file_graph.Graph.{Graph, Node, FileBody, DirBody}
use Rattle.log_record.specs.file_graph.declared.effect.Kind.{Kind}
use Rattle.call_effects.specs.Wholes.{tree_of, tree_node, tree_body, keep, reachable_graph, without_kinds}
use Rattle.call_effects.specs.Fits.{IsNew, IsRoom, IsEntry, IsUsedFile, IsEmptyDir}
use Rattle.call_effects.proofs.Inodes.{get_inodes, inodes_empty}
use Rattle.call_effects.proofs.Changes.{tree_dir}
use Rattle.call_effects.proofs.Edges.{tree_used}
use Rattle.call_effects.proofs.Ways.{reached_alike}

-- ---- the graph and what is kept of it

in_file : {A : Type 0} (f : Option tree.Node → A) (b : Bool) (n : Node) (bytes : List ℕ) → f (Some (tree.File bytes)) ≡ f None → n.body ≡ FileBody bytes → f (option_map tree_node (cond b None (Some n))) ≡ f (Some (tree_node n))
in_file f true n bytes nothing is = sym (ap (λ y. f (Some (tree_body y))) is ∙ nothing)
in_file f false n bytes nothing is = refl

-- what tells no file from nothing tells the kept graph's nodes from none of the graph's
kept_alike : {A : Type 0} (f : Option tree.Node → A) → ((bytes : List ℕ) → f (Some (tree.File bytes)) ≡ f None) → (b : Bool) (o : Option Node) → f (option_map tree_node (keep b o)) ≡ f (option_map tree_node o)
kept_alike f nothing b None = refl
kept_alike f nothing b (Some n) = elim (n.body) as (λ y. n.body ≡ y → f (option_map tree_node (elim y [ FileBody bytes ↦ if n.names == 0 && not b then None else Some n | DirBody es ↦ Some n ])) ≡ f (Some (tree_node n))) [
  | FileBody bytes ↦ λ is. in_file f (n.names == 0 && not b) n bytes (nothing bytes) is
  | DirBody es ↦ λ is. refl
] refl

abbrev is_dir : Option tree.Node → Bool
is_dir None = false
is_dir (Some (tree.File bytes)) = false
is_dir (Some (tree.Dir es)) = true

dir_is : (o : Option tree.Node) → IsDirectory o → is_dir o ≡ true
dir_is None e = absurd (cc)
dir_is (Some (tree.File bytes)) e = absurd (cc)
dir_is (Some (tree.Dir es)) e = refl

is_dir_is : (o : Option tree.Node) → is_dir o ≡ true → IsDirectory o
is_dir_is None e = absurd (cc)
is_dir_is (Some (tree.File bytes)) e = absurd (cc)
is_dir_is (Some (tree.Dir es)) e = refl

pub reached_kept : (g : Graph) (d : Descriptors) → way.AreReached (tree_of g) → way.AreReached (tree_of (reachable_graph g d))
reached_kept g d reached = reached_alike (tree_of g) (tree_of (reachable_graph g d))
    (λ a. sym (kept_alike entries_of (λ bytes. refl) (is_open d a) (g a)))
    (λ j is. is_dir_is (tree_of g j) (sym (kept_alike is_dir (λ bytes. refl) (is_open d j) (g j)) ∙ dir_is (tree_of (reachable_graph g d) j) is)) reached

pub reached_whole : (g : Graph) (d : Descriptors) → way.AreReached (tree_of (reachable_graph g d)) → way.AreReached (tree_of g)
reached_whole g d reached = reached_alike (tree_of (reachable_graph g d)) (tree_of g)
    (λ a. kept_alike entries_of (λ bytes. refl) (is_open d a) (g a))
    (λ j is. is_dir_is (tree_of (reachable_graph g d) j) (kept_alike is_dir (λ bytes. refl) (is_open d j) (g j) ∙ dir_is (tree_of g j) is)) reached

-- ---- what fits, in the tree

module _ (g : Graph) (d : Descriptors) where
  abbrev pub t : Tree
  t = tree_of (reachable_graph g d)

  pub is_file : (i : ℕ) → IsUsedFile g d i → IsFile (t i)
  is_file i f = ap (option_map dir_test) (tree_used g d i f.names f.bytes f.is f.used)

  pub bare_used : (i : ℕ) → IsUsedFile g d i → IsBare (t i)
  bare_used i f = bare_file (t i) (is_file i f)

  pub bare_empty : (i : ℕ) → IsEmptyDir g i → IsBare (t i)
  bare_empty i f = ap entries_of (tree_dir g d i f.names f.entries f.is ∙ ap (λ m. Some (tree.Dir m)) (ap (λ m. without_kinds m) (fin.empty_of_len f.entries f.none) ∙ inodes_empty))

  pub room_parent : (at : Location) → IsRoom g at → IsDirectory (t at.parent)
  room_parent at room = ap (option_map dir_test) (tree_dir g d at.parent room.names room.entries room.is)

  pub room_none : (at : Location) → IsRoom g at → entry t at ≡ None
  room_none at room = ap (λ o. fin.get (entries_of o) at.name) (tree_dir g d at.parent room.names room.entries room.is) ∙ get_inodes room.entries at.name ∙ ap (option_map (λ (e : ℕ × Kind). e.0)) room.none

  pub entry_parent : (at : Location) (e : ℕ × Kind) → IsEntry g at e → IsDirectory (t at.parent)
  entry_parent at e entry = ap (option_map dir_test) (tree_dir g d at.parent entry.names entry.entries entry.is)

  pub entry_there : (at : Location) (e : ℕ × Kind) → IsEntry g at e → entry t at ≡ Some (e.0)
  entry_there at e at_e = ap (λ o. fin.get (entries_of o) at.name) (tree_dir g d at.parent at_e.names at_e.entries at_e.is) ∙ get_inodes at_e.entries at.name ∙ ap (option_map (λ (x : ℕ × Kind). x.0)) at_e.there

  pub none_new : (new : ℕ) → IsNew g new → t new ≡ None
  none_new new free = ap (λ o. option_map tree_node (keep (is_open d new) o)) free.none
