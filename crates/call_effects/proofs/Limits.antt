-- The limits of a graph, with the files in it that its tree no longer has, and what is left of them after a call.
use Rattle.std.proofs.Common.{◌≡◌, ℕ, ◌+◌, ◌≤◌, List, [], ◌∷◌, length, refl, Some, None, Option, Ok, cond, ap, sym, ◌∙◌, subst, true, false, Bool, arith, ◌==◌, inl, inr}
use Rattle.std.specs.Prelude.{option_map, unwrap_or, ◌&&◌, not, IsSome}
use Rattle.std.specs.List.{AllByRecursion}
use Rattle.std.proofs.lemmas.Bool.Decides.{eqb_tells}
use Rattle.posix_calls.specs.Tree.{Descriptors, names_of}
use Rattle.posix_calls.specs.Tree as tree
use Rattle.posix_calls.specs.Operations.{makes, reply_of, held_after}
use Rattle.posix_calls.specs.WellFormed.{IsWithinLimits}
use Rattle.posix_calls.specs.declared.limits.TheConstants.{MAX_FILE, MAX_INODE, MAX_NAMES}
use Rattle.posix_calls.specs.declared.call.Call.{Call}
use Rattle.posix_calls.specs.declared.operation.Operation.{Operation}
use Rattle.posix_calls.proofs.Able.{nodes_of}
use Rattle.posix_calls.proofs.Passing.{step_within}
use Rattle.posix_calls.proofs.Within.{IsNodeWithin, file_within, none_within}
use Rattle.log_record.specs.file_graph.Graph.{Graph, Node, FileBody, DirBody, subjects, is_among, subject_after, set_node, after_effect, after_effects, file_bytes}
use Rattle.log_record.specs.file_graph.declared.effect.Kind.TheVariants as kind
use Rattle.log_record.specs.file_graph.declared.effect.Effect.{Effect}
use Rattle.log_record.specs.file_graph.declared.effect.Effect.TheVariants as effect
use Rattle.log_record.specs.Grammar as grammar
use Rattle.call_effects.specs.Calls.{answer_over}
use Rattle.call_effects.specs.ChangeTest.{changes}
use Rattle.call_effects.specs.Effects.{stored_count, effects_of}
use Rattle.call_effects.specs.Fits.{IsNew, IsUnusedFile}
use Rattle.call_effects.specs.NodeView.{NodeView, FileView, DirView, view_of_body, view_of_node, view_acted}
use Rattle.call_effects.specs.Wholes.{IsSound, state_of, tree_of, tree_body, tree_node, keep, reachable_graph, node_bytes, body_kind, one_if}
use Rattle.call_effects.proofs.Changes.{named}
use Rattle.call_effects.proofs.NodeViews.{view_acts, swap_keeps}
use Rattle.call_effects.proofs.Spelled.{record_spelled, unchanged}
use Rattle.call_effects.proofs.Steps.{call_done}
use Rattle.call_effects.proofs.Unused.{same_state}
use Rattle.call_effects.proofs.Views.{kept_named}
use Rattle.call_effects.proofs.WellFormed.{well_formed}

-- ---- sizes after effects that keep the limits

abbrev size_viewed : Option NodeView → ℕ
size_viewed None = 0
size_viewed (Some (FileView names size)) = size
size_viewed (Some (DirView names entries)) = 0

size_is : (o : Option Node) → length (node_bytes o) ≡ size_viewed (option_map view_of_node o)
size_is None = refl
size_is (Some n) = elim (n.body) as (λ y. length (node_bytes (Some (record { names = n.names; body = y }))) ≡ size_viewed (Some (view_of_body n.names y))) [ FileBody bytes ↦ refl | DirBody es ↦ refl ]

-- what stands at an inode is no greater than the greatest file
abbrev IsSmall : Option Node → Type 0
IsSmall o = length (node_bytes o) ≤ MAX_FILE

acted_small : (e : Effect) (v : Option NodeView) → grammar.FitsLimits e → size_viewed v ≤ MAX_FILE → size_viewed (view_acted e v) ≤ MAX_FILE
acted_small (effect.Make i kind.File) v fits small = omega arith
acted_small (effect.Make i kind.Directory) v fits small = omega arith
acted_small (effect.Enter d i k name) None fits small = small
acted_small (effect.Enter d i k name) (Some (FileView names size)) fits small = small
acted_small (effect.Enter d i k name) (Some (DirView names entries)) fits small = small
acted_small (effect.Leave d name) None fits small = small
acted_small (effect.Leave d name) (Some (FileView names size)) fits small = small
acted_small (effect.Leave d name) (Some (DirView names entries)) fits small = small
acted_small (effect.Names i n) None fits small = small
acted_small (effect.Names i n) (Some (FileView names size)) fits small = small
acted_small (effect.Names i n) (Some (DirView names entries)) fits small = small
acted_small (effect.Size i size) None fits small = small
acted_small (effect.Size i size) (Some (FileView names old)) fits small = fits.1
acted_small (effect.Size i size) (Some (DirView names entries)) fits small = small
acted_small (effect.Bytes i at new) None fits small = small
acted_small (effect.Bytes i at new) (Some (FileView names old)) fits small = let end = fits.3 in omega (arith, end, small)
acted_small (effect.Bytes i at new) (Some (DirView names entries)) fits small = small
acted_small (effect.Drop i) v fits small = omega arith
acted_small (effect.Swap d a e b) v fits small = small

small_if : (b : Bool) (e : Effect) (o : Option Node) → grammar.FitsLimits e → IsSmall o → IsSmall (cond b (subject_after e o) o)
small_if true e o fits small = subst (λ n. n ≤ MAX_FILE) (sym (size_is (subject_after e o) ∙ ap size_viewed (view_acts e o))) (acted_small e (option_map view_of_node o) fits (subst (λ n. n ≤ MAX_FILE) (size_is o) small))
small_if false e o fits small = small

bytes_in : (o : Option Node) → node_bytes o ≡ unwrap_or (file_bytes o) []
bytes_in None = refl
bytes_in (Some n) = elim (n.body) as (λ y. node_bytes (Some (record { names = n.names; body = y })) ≡ unwrap_or (file_bytes (Some (record { names = n.names; body = y }))) []) [ FileBody bytes ↦ refl | DirBody es ↦ refl ]

small_step : (g : Graph) (e : Effect) (i : ℕ) → grammar.FitsLimits e → IsSmall (g i) → IsSmall (after_effect g e i)
small_step g (effect.Swap d a e b) i fits small =
    let same : node_bytes (after_effect g (effect.Swap d a e b) i) ≡ node_bytes (g i) = bytes_in (after_effect g (effect.Swap d a e b) i) ∙ ap (λ o. unwrap_or o []) (swap_keeps g d a e b i) ∙ sym (bytes_in (g i)) in
    subst (λ bytes. length bytes ≤ MAX_FILE) (sym same) small
small_step g e i fits small = small_if (is_among i (subjects e)) e (g i) fits small

sizes_after : (g : Graph) (es : List Effect) (i : ℕ) → AllByRecursion grammar.FitsLimits es → IsSmall (g i) → IsSmall (after_effects g es i)
sizes_after g [] i fit small = small
sizes_after g (e ∷ es) i fit small = sizes_after (after_effect g e) es i fit.1 (small_step g e i fit.0 small)

-- ---- a node, and what is kept of it

file_or_none : (b : Bool) (n : Node) → IsNodeWithin (Some (tree_node n)) → IsNodeWithin (option_map tree_node (cond b None (Some n)))
file_or_none true n within = none_within
file_or_none false n within = within

kept_within : (b : Bool) (o : Option Node) → IsNodeWithin (option_map tree_node o) → IsNodeWithin (option_map tree_node (keep b o))
kept_within b None within = within
kept_within b (Some n) within = elim (n.body) as (λ y. IsNodeWithin (option_map tree_node (elim y [ FileBody bytes ↦ cond (n.names == 0 && not b) None (Some n) | DirBody es ↦ Some n ]))) [
  | FileBody bytes ↦ file_or_none (n.names == 0 && not b) n within
  | DirBody es ↦ within
]

-- a directory is kept, and of a file its size is enough
whole_within : (b : Bool) (o : Option Node) → IsNodeWithin (option_map tree_node (keep b o)) → IsSmall o → IsNodeWithin (option_map tree_node o)
whole_within b None within small = within
whole_within b (Some n) within small = elim (n.body) as (λ y. n.body ≡ y → IsNodeWithin (option_map tree_node (elim y [ FileBody bytes ↦ cond (n.names == 0 && not b) None (Some n) | DirBody es ↦ Some n ])) → length (node_bytes (Some (record { names = n.names; body = y }))) ≤ MAX_FILE → IsNodeWithin (Some (tree_body n.body))) [
  | FileBody bytes ↦ λ is w s. subst (λ y. IsNodeWithin (Some (tree_body y))) (sym is) (file_within bytes s)
  | DirBody es ↦ λ is w s. w
] refl within small

-- ---- the graph

within_by : (g : Graph) → ((i : ℕ) → IsNodeWithin (tree_of g i)) → ((i : ℕ) → named g i ≤ MAX_NAMES) → IsWithinLimits (tree_of g)
within_by g nodes names = record { sizes = λ i. (nodes i).size; entries = λ i. (nodes i).entries; names = names; valid = λ i. (nodes i).valid }

-- what a call sees of it is within the limits too
pub seen_within : (g : Graph) (d : Descriptors) → IsWithinLimits (tree_of g) → IsWithinLimits (state_of g d).tree
seen_within g d within = within_by (reachable_graph g d) (λ i. kept_within (tree.is_open d i) (g i) (nodes_of (tree_of g) within i)) (λ i. subst (λ n. n ≤ MAX_NAMES) (sym (kept_named g d i)) (within.names i))

fit_of : (g : Graph) (d : Descriptors) (client new : ℕ) (c : Call) (operation : Operation) → IsSound g d → IsWithinLimits (state_of g d).tree → answer_over g d client c ≡ Ok operation → (makes operation ≡ true → IsNew g new) → (b : Bool) → changes operation ≡ b → AllByRecursion grammar.FitsLimits (effects_of g new operation)
fit_of g d client new c operation sound within e free true some = (record_spelled g d client new 0 c operation sound within e free some (omega arith)).fit
fit_of g d client new c operation sound within e free false none = subst (AllByRecursion grammar.FitsLimits) (sym (unchanged g new operation none)) tt

pub call_within : (g : Graph) (d : Descriptors) (client new : ℕ) (c : Call) (operation : Operation) → IsSound g d → IsWithinLimits (tree_of g) → answer_over g d client c ≡ Ok operation → (makes operation ≡ true → IsNew g new) → IsWithinLimits (tree_of (after_effects g (effects_of g new operation)))
call_within g d client new c operation sound within e free =
    let seen = seen_within g d within in
    let more = after_effects g (effects_of g new operation) in
    let held = held_after client new d operation in
    let after = step_within (state_of g d) client c (reply_of operation) (state_of more held) (well_formed g d sound) seen (call_done g d client new c operation sound e free) in
    let fit = fit_of g d client new c operation sound seen e free (changes operation) refl in
    within_by more
    (λ i. whole_within (tree.is_open held i) (more i) (nodes_of (tree_of (reachable_graph more held)) after i) (sizes_after g (effects_of g new operation) i fit (bytes_small g i within)))
    (λ i. subst (λ n. n ≤ MAX_NAMES) (kept_named more held i) (after.names i))
  where
    small_of : (o : Option Node) → length (tree.bytes_of (option_map tree_node o)) ≤ MAX_FILE → IsSmall o
    small_of None small = small
    small_of (Some n) small = elim (n.body) as (λ y. length (tree.bytes_of (Some (tree_body y))) ≤ MAX_FILE → length (node_bytes (Some (record { names = n.names; body = y }))) ≤ MAX_FILE) [ FileBody bytes ↦ λ s. s | DirBody es ↦ λ s. s ] small

    bytes_small : (g : Graph) (i : ℕ) → IsWithinLimits (tree_of g) → IsSmall (g i)
    bytes_small g i within = small_of (g i) (within.sizes i)

pub dropped_within : (g : Graph) (d : Descriptors) (i : ℕ) → IsUnusedFile g d i → IsWithinLimits (tree_of g) → IsWithinLimits (tree_of (set_node g i None))
dropped_within g d i unused within =
    within_by (set_node g i None)
    (λ j. dropped_node (j == i) (g j) (nodes_of (tree_of g) within j))
    (λ j. subst (λ n. n ≤ MAX_NAMES) (sym (sym (kept_named (set_node g i None) d j) ∙ ap (λ (s : tree.State). names_of s.tree j) (same_state g d i unused) ∙ kept_named g d j)) (within.names j))
  where
    dropped_node : (b : Bool) (o : Option Node) → IsNodeWithin (option_map tree_node o) → IsNodeWithin (option_map tree_node (cond b None o))
    dropped_node true o within = none_within
    dropped_node false o within = within

-- ---- what a sound graph of them has

pub few_stored : (g : Graph) (d : Descriptors) (i : ℕ) → IsSound g d → IsWithinLimits (tree_of g) → stored_count (g i) ≤ MAX_NAMES
few_stored g d i sound within = elim (eqb_tells i 1) [
  | inl same ↦
      let none : named g 1 ≡ 0 = sym (kept_named g d 1) ∙ (well_formed g d sound).root_names in
      let here : named g i ≡ 0 = ap (named g) same.1 ∙ none in
      let count = sound.counts.counted i in
      let one : one_if (i == 1) ≡ 1 = ap one_if same.0 in
      omega (arith, count, here, one)
  | inr off ↦
      let count = sound.counts.counted i in
      let other : one_if (i == 1) ≡ 0 = ap one_if off.0 in
      let had = within.names i in
      omega (arith, count, other, had)
]

pub numbered : (g : Graph) (d : Descriptors) (i : ℕ) → IsSound g d → IsSome (g i) → (1 ≤ i) × (i ≤ MAX_INODE)
numbered g d i sound some = by_node (g i) refl some where
  by_node : (o : Option Node) → g i ≡ o → IsSome o → (1 ≤ i) × (i ≤ MAX_INODE)
  by_node None is some = absurd (let clash : false ≡ true = some in cc)
  by_node (Some n) is some = sound.typed.numbers i (body_kind n.body) (ap (option_map (λ (n : Node). body_kind n.body)) is)
