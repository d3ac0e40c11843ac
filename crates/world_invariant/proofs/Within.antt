-- A graph whose nodes are within the limits, and its tree.
use Rattle.std.proofs.Common.{◌≡◌, ℕ, ◌+◌, ◌≤◌, List, length, true, refl, Some, None, Option, ap, sym, ◌∙◌, subst, arith, ◌==◌}
use Rattle.std.specs.Prelude.{option_map}
use Rattle.std.specs.FinMap as fin
use Rattle.posix_calls.specs.Content.{Entries}
use Rattle.posix_calls.specs.Name.{is_name}
use Rattle.posix_calls.specs.Tree.{Descriptors, names_of, bytes_of, entries_of, with_own}
use Rattle.posix_calls.specs.Operations.{own_after}
use Rattle.posix_calls.proofs.Counts.{order}
use Rattle.posix_calls.specs.WellFormed.{IsWithinLimits}
use Rattle.posix_calls.specs.declared.call.Call.{Call}
use Rattle.posix_calls.specs.declared.limits.TheConstants.{MAX_FILE}
use Rattle.posix_calls.specs.declared.operation.Operation.{Operation}
use Rattle.call_effects.specs.file_graph.Graph.{Graph, Node, FileBody, DirBody, after_effects}
use Rattle.call_effects.specs.file_graph.declared.effect.Kind.{Kind}
use Rattle.call_effects.specs.file_graph.declared.effect.Effect.{Effect}
use Rattle.call_effects.specs.Effects.{stored_count}
use Rattle.call_effects.specs.Knowledge.{Knowledge, Agrees, IsPlanned}
use Rattle.call_effects.specs.Wholes.{IsSound, tree_of, tree_body, tree_node, body_kind, kind_of, one_if}
use Rattle.call_effects.proofs.GrowthAsked.{len_seen}
use Rattle.call_effects.proofs.Inodes.{get_inodes}
use Rattle.call_effects.proofs.KnownSteps.{planned_answer, planned_sound}
use Rattle.call_effects.proofs.Limits.{call_within, few_stored}
use Rattle.world_invariant.specs.Limits.{AreEntriesWithin, IsBodyWithin, IsNodeWithin, IsWithin, AreWithin}
use Rattle.world_invariant.proofs.Idle.{none_some}

-- ---- one node

few_names : (i : ℕ) (o : Option Node) → IsWithin i o → stored_count o ≤ 1000
few_names i None within = omega arith
few_names i (Some n) within = within.names

small : (i : ℕ) (o : Option Node) → IsWithin i o → length (bytes_of (option_map tree_node o)) ≤ MAX_FILE
small i None within = omega arith
small i (Some n) within = elim (n.body) as (λ y. n.body ≡ y → length (bytes_of (Some (tree_body y))) ≤ MAX_FILE) [
  | FileBody bytes ↦ λ is. subst IsBodyWithin is within.body
  | DirBody es ↦ λ is. omega arith
] refl

abbrev nothing : Entries ℕ
nothing = fin.empty

none_listed : fin.len nothing ≤ 3584
none_listed = let none = fin.len-empty order ℕ in omega (arith, none)

none_at : (name : List ℕ) → fin.get nothing name ≡ None
none_at name = simp fin.gets refl

few_entries : (i : ℕ) (o : Option Node) → IsWithin i o → fin.len (entries_of (option_map tree_node o)) ≤ 3584
few_entries i None within = none_listed
few_entries i (Some n) within = elim (n.body) as (λ y. n.body ≡ y → fin.len (entries_of (Some (tree_body y))) ≤ 3584) [
  | FileBody bytes ↦ λ is. none_listed
  | DirBody es ↦ λ is. subst (λ m. m ≤ 3584) (sym (len_seen es)) (subst IsBodyWithin is within.body).few
] refl

valid_name : (i : ℕ) (o : Option Node) → IsWithin i o → (name : List ℕ) (j : ℕ) → fin.get (entries_of (option_map tree_node o)) name ≡ Some j → is_name name ≡ true
valid_name i None within name j there = none_some j (sym (none_at name) ∙ there)
valid_name i (Some n) within name j there = elim (n.body) as (λ y. n.body ≡ y → fin.get (entries_of (Some (tree_body y))) name ≡ Some j → is_name name ≡ true) [
  | FileBody bytes ↦ λ is e. none_some j (sym (none_at name) ∙ e)
  | DirBody es ↦ λ is e. entry (subst IsBodyWithin is within.body) (fin.get es name) refl (sym (get_inodes es name) ∙ e)
] refl there
  where
    entry : {es : Entries (ℕ × Kind)} → AreEntriesWithin es → (o : Option (ℕ × Kind)) → fin.get es name ≡ o → option_map (λ (x : ℕ × Kind). x.0) o ≡ Some j → is_name name ≡ true
    entry few None is e = none_some j e
    entry few (Some x) is e = few.valid name x is

-- ---- the graph

-- a sound graph whose nodes are within the limits stands for a tree within them
pub tree_within : (g : Graph) (d : Descriptors) → IsSound g d → AreWithin g → IsWithinLimits (tree_of g)
tree_within g d sound within = record {
  sizes = λ i. small i (g i) (within i);
  entries = λ i. few_entries i (g i) (within i);
  names = λ i. (let count : stored_count (g i) ≡ names_of (tree_of g) i + one_if (i == 1) = sound.counts.counted i in let few : stored_count (g i) ≤ 1000 = few_names i (g i) (within i) in omega (arith, count, few));
  valid = λ i name j there. valid_name i (g i) (within i) name j there;
}

-- and the other way round
module _ (g : Graph) (d : Descriptors) (sound : IsSound g d) (within : IsWithinLimits (tree_of g)) (i : ℕ) where
  entries_within : (n : Node) (es : Entries (ℕ × Kind)) → g i ≡ Some (record { names = n.names; body = DirBody es }) → AreEntriesWithin es
  entries_within n es there = record {
    few = subst (λ m. m ≤ 3584) (len_seen es) (subst (λ o. fin.len (entries_of (option_map tree_node o)) ≤ 3584) there (within.entries i));
    valid = λ name e has. within.valid i name e.0 (ap (λ o. fin.get (entries_of (option_map tree_node o)) name) there ∙ get_inodes es name ∙ ap (option_map (λ (x : ℕ × Kind). x.0)) has);
    numbered = λ name e has. sound.typed.numbers e.0 e.1 (sound.typed.kinds i n.names es name e there has);
  }

  body_within : (n : Node) → g i ≡ Some n → IsBodyWithin n.body
  body_within n is = elim (n.body) as (λ y. n.body ≡ y → IsBodyWithin y) [
    | FileBody bytes ↦ λ b. subst (λ o. length (bytes_of (option_map tree_node o)) ≤ MAX_FILE) (is ∙ ap (λ y. Some (record { names = n.names; body = y })) b) (within.sizes i)
    | DirBody es ↦ λ b. entries_within n es (is ∙ ap (λ y. Some (record { names = n.names; body = y })) b)
  ] refl

  node_within : (n : Node) → g i ≡ Some n → IsNodeWithin i n
  node_within n is =
      let range = sound.typed.numbers i (body_kind n.body) (ap kind_of is) in
      record { low = range.0; high = range.1; names = subst (λ o. stored_count o ≤ 1000) is (few_stored g d i sound within); body = body_within n is }

  what_within : (o : Option Node) → g i ≡ o → IsWithin i o
  what_within None is = tt
  what_within (Some n) is = node_within n is

pub nodes_within : (g : Graph) (d : Descriptors) → IsSound g d → IsWithinLimits (tree_of g) → AreWithin g
nodes_within g d sound within i = what_within g d sound within i (g i) refl

-- a planned call keeps a whole within the limits
pub planned_within : (k : Knowledge) (g : Graph) (d : Descriptors) (c : Call) (new : ℕ) (operation : Operation) (es : List Effect) → IsSound g d → Agrees k g d → IsPlanned k c new operation es → AreWithin g → AreWithin (after_effects g es)
planned_within k g d c new operation es sound agrees plan within =
    let a = planned_answer k g d c new operation es sound agrees plan in
    let limits = call_within g d k.client new c operation sound (tree_within g d sound within) a.0 (λ m. agrees.granted new (plan.number m)) in
    nodes_within (after_effects g es) (with_own d k.client (own_after new k.own operation)) (planned_sound k g d sound agrees c new operation es plan) (subst (λ es. IsWithinLimits (tree_of (after_effects g es))) a.1 limits)
