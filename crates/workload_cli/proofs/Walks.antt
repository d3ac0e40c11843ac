-- A walk along names.
use Rattle.std.proofs.Common.{◌≡◌, ◌∙◌, inl, inr, ℕ, suc, ◌+◌, ◌<◌, ◌≤◌, List, [], ◌∷◌, Bool, true, false, length, get_or, drop, drop-cons, add-one, refl, sym, ap, subst}
use Rattle.std.proofs.lemmas.Bool.{true≢false}
use Rattle.std.proofs.Math.ListN.{drop_of_length-le}
use Rattle.std.proofs.lemmas.Result.{err_from_is_err_and}
use Rattle.std.specs.Prelude.{Option, Some, None, Result, Ok, Err, IfErr, IsErrAnd}
use Rattle.posix_calls.specs.declared.errno.Errno.{Errno}
use Rattle.posix_calls.specs.declared.errno.Errno.TheVariants.{NoEntry, IsDirectory, NotDirectory}
use Rattle.posix_calls.specs.Answers.{entry_in}
use Rattle.posix_calls.specs.Resolve.{child, entry_or, then_from, resolve_from}
use Rattle.posix_calls.specs.Tree.{Tree}
use Rattle.script.specs.file_graph.Graph.{Graph, Node, Body, FileBody, DirBody}
use Rattle.call_driver.specs.call_effects.NodeView.{NodeView, FileView, DirView, view_is_dir, view_of_body, view_of_node, view_at}
use Rattle.call_driver.specs.call_effects.Wholes.{tree_of, tree_node, tree_body}
use Rattle.call_driver.specs.record_validation.NodeAnswers.{seen_node}
use Rattle.workload_cli.specs.Paths.{child_in, unless_directory}
use Rattle.workload_cli.specs.AnswerText.{IsNoFile, IsUnread}
use Rattle.workload_cli.specs.declared.answer.Answer.{Answer}

-- what stands under a name in what is known of a node, if a node there is
abbrev pub child_there : Option NodeView → List ℕ → Result ℕ Errno
child_there None name = Err NoEntry
child_there (Some v) name = child_in v name

child_in_body : (names : ℕ) (b : Body) (name : List ℕ) → child (Some (tree_body b)) name ≡ child_in (view_of_body names b) name
child_in_body names (FileBody bytes) name = refl
child_in_body names (DirBody entries) name = refl

child_in_node : (n : Option Node) (name : List ℕ) → child (elim n [ None ↦ None | Some x ↦ Some (tree_node x) ]) name ≡ child_there (elim n [ None ↦ None | Some x ↦ Some (view_of_node x) ]) name
child_in_node None name = refl
child_in_node (Some n) name = child_in_body n.names n.body name

pub child_is : (g : Graph) (i : ℕ) (name : List ℕ) → child (tree_of g i) name ≡ child_there (view_at g i) name
child_is g i name = elim (g i) as (λ (n : Option Node). child (elim n [ None ↦ None | Some x ↦ Some (tree_node x) ]) name ≡ child_there (elim n [ None ↦ None | Some x ↦ Some (view_of_node x) ]) name) [ None ↦ refl | Some n ↦ child_in_body n.names n.body name ]

-- one name more
pub resolve_more : (t : Tree) (name : List ℕ) (names : List (List ℕ)) (i j : ℕ) → child (t i) name ≡ Ok j → resolve_from t (name ∷ names) i ≡ resolve_from t names j
unfolding resolve_from
resolve_more t name names i j e = ap (then_from (resolve_from t names)) e

pub resolve_ends : (t : Tree) (name : List ℕ) (names : List (List ℕ)) (i : ℕ) (e : Errno) → child (t i) name ≡ Err e → resolve_from t (name ∷ names) i ≡ Err e
unfolding resolve_from
resolve_ends t name names i e is = ap (then_from (resolve_from t names)) is

pub resolve_here : (t : Tree) (i : ℕ) → resolve_from t [] i ≡ Ok i
unfolding resolve_from
resolve_here t i = refl

-- a file has no entries
pub file_has_none : (v : NodeView) (name : List ℕ) → view_is_dir v ≡ false → child_in v name ≡ Err NotDirectory
file_has_none (FileView names size) name is = refl
file_has_none (DirView names entries) name is = absurd (true≢false is)

-- nor has a directory one that is not found in it
pub directory_has_none : (v : NodeView) (name : List ℕ) → view_is_dir v ≡ true → entry_in name (seen_node v) ≡ None → child_in v name ≡ Err NoEntry
directory_has_none (FileView names size) name is none = absurd (true≢false (sym is))
directory_has_none (DirView names entries) name is none = ap entry_or none

unless_body : (names : ℕ) (b : Body) (i : ℕ) → view_is_dir (view_of_body names b) ≡ true → unless_directory (Some (tree_body b)) i ≡ Err IsDirectory
unless_body names (FileBody bytes) i is = absurd (true≢false (sym is))
unless_body names (DirBody entries) i is = refl

-- a directory is no file
pub directory_is_none : (g : Graph) (i : ℕ) (v : NodeView) → Some v ≡ view_at g i → view_is_dir v ≡ true → unless_directory (tree_of g i) i ≡ Err IsDirectory
directory_is_none g i v at is =
    elim (g i) as (λ (n : Option Node). Some v ≡ elim n [ None ↦ None | Some x ↦ Some (view_of_node x) ] → unless_directory (elim n [ None ↦ None | Some x ↦ Some (tree_node x) ]) i ≡ Err IsDirectory) [
      | None ↦ λ at. let no : ⊥ = cc in absurd no
      | Some n ↦ λ at. let same : v ≡ view_of_body n.names n.body = cc in unless_body n.names n.body i (ap view_is_dir (sym same) ∙ is)
    ] at

-- ---- along the names of a path

drop_next : (names : List (List ℕ)) (k : ℕ) (x : List ℕ) → x ≡ get_or names k x → k < length names → drop k names ≡ x ∷ drop (k + 1) names
drop_next names k x at within = drop-cons names k x within ∙ ap (λ (y : List ℕ). y ∷ drop (suc k) names) (sym at) ∙ ap (λ (n : ℕ). x ∷ drop n names) (sym (add-one k))

module _ (t : Tree) (names : List (List ℕ)) (k i : ℕ) (x : List ℕ) (target : Result ℕ Errno) (at : x ≡ get_or names k x) (within : k < length names) (so_far : resolve_from t (drop k names) i ≡ target) where
  -- one name more
  pub walk_next : (j : ℕ) → child (t i) x ≡ Ok j → resolve_from t (drop (k + 1) names) j ≡ target
  walk_next j is = sym (resolve_more t x (drop (k + 1) names) i j is) ∙ ap (λ (l : List (List ℕ)). resolve_from t l i) (sym (drop_next names k x at within)) ∙ so_far

  -- a name that is not there
  pub walk_ends : (e : Errno) → child (t i) x ≡ Err e → target ≡ Err e
  walk_ends e is = sym so_far ∙ ap (λ (l : List (List ℕ)). resolve_from t l i) (drop_next names k x at within) ∙ resolve_ends t x (drop (k + 1) names) i e is

-- no name is left
pub walk_done : (t : Tree) (names : List (List ℕ)) (k i : ℕ) (target : Result ℕ Errno) → length names ≤ k → resolve_from t (drop k names) i ≡ target → target ≡ Ok i
walk_done t names k i target past so_far = sym so_far ∙ ap (λ (l : List (List ℕ)). resolve_from t l i) (drop_of_length-le names past) ∙ resolve_here t i

-- ---- refusals

-- one that is passed on
pub no_file_on : (inner outer : Result ℕ Errno) (old mid new : Bool) (answer : Answer) → ((e : Errno) → inner ≡ Err e → outer ≡ Err e) → mid ≡ old → IsNoFile inner mid new answer → IsNoFile outer old new answer
no_file_on inner outer old mid new answer maps same (inl (e, told, inl memory)) = inl (e, told, inl memory)
no_file_on inner outer old mid new answer maps same (inl (e, told, inr is)) = inl (e, told, inr (maps e is))
no_file_on inner outer old mid new answer maps same (inr unread) = inr (subst (λ (b : Bool). IsUnread b new answer) same unread)

-- the exit of a `?`
pub exits : {T : Type 0} (P : Answer → Type 0) (r : Result T Answer) {answer : Answer} → IsErrAnd r (λ a. a ≡ answer) → P answer → IfErr r P
exits P r is h = let e = err_from_is_err_and r is in subst (λ (z : Result _ Answer). IfErr z P) (sym (e.1 ∙ ap (λ a. Err a) e.2)) h
