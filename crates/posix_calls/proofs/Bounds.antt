-- The opening state keeps the limits, and so does what runs lead to and what is settled.
use Rattle.std.proofs.Common.{ℕ, ◌≤◌, List, [], ◌∷◌, None, Some, Option, Bool, true, false, sym, subst, arith, ◌==◌, if◌then◌else◌}
use Rattle.std.specs.Prelude.{◌||◌, nat_lt}
use Rattle.std.specs.FinMap as fin
use Rattle.posix_calls.specs.Tree.{Node, Dir, Descriptors, State, names_of, is_open}
use Rattle.posix_calls.specs.EmptyTree.{empty_state}
use Rattle.posix_calls.specs.Run.{Turn, Asked, Departs, Takes, Run, settled, left_with, without_client}
use Rattle.posix_calls.specs.WellFormed.{IsWellFormed, IsWithinLimits}
use Rattle.posix_calls.proofs.Within.{IsNodeWithin, none_within, empty_within, set_within}
use Rattle.posix_calls.proofs.Able.{nodes_of}
use Rattle.posix_calls.proofs.Lasting.{turn_fine}
use Rattle.posix_calls.proofs.Passing.{step_within}
use Rattle.posix_calls.proofs.Settled.{IsFewer, no_names, same_names, without_fewer, settled_is}

pub opening_within : IsWithinLimits empty_state.tree
opening_within =
    let nodes = set_within (λ i. None) 1 (Some (Dir fin.empty)) (λ i. none_within) empty_within in
    record {
      sizes = λ i. (nodes i).size;
      entries = λ i. (nodes i).entries;
      names = λ i. let none = no_names i in omega (arith, none);
      valid = λ i. (nodes i).valid;
    }

kept_within : (b : Bool) (o : Option Node) → IsNodeWithin o → IsNodeWithin (if b then o else None)
kept_within true o within = within
kept_within false o within = none_within

-- where fewer files are open the limits are kept
pub left_within : (s : State) → IsWellFormed s → (held : Descriptors) → IsFewer s.descriptors held → IsWithinLimits s.tree → IsWithinLimits (left_with held s).tree
left_within s fine held fewer within =
    let t = s.tree in
    let nodes = λ (i : ℕ). kept_within ((i == 1 || nat_lt 0 (names_of t i)) || is_open held i) (t i) (nodes_of t within i) in
    record {
      sizes = λ i. (nodes i).size;
      entries = λ i. (nodes i).entries;
      names = λ i. subst (λ n. n ≤ 1000) (sym (same_names s fine held fewer i)) (within.names i);
      valid = λ i. (nodes i).valid;
    }

-- a turn, and a run, keeps them
turn_within : (old : State) (turn : Turn) (after : State) → IsWellFormed old → IsWithinLimits old.tree → Takes old turn after → IsWithinLimits after.tree
turn_within old (Asked client call reply) after fine within e = step_within old client call reply after fine within e
turn_within old (Departs client) after fine within e = subst (λ (s : State). IsWithinLimits s.tree) (sym e) (left_within old fine (without_client old.descriptors client) (without_fewer old.descriptors client) within)

pub run_within : (turns : List Turn) (old last : State) → IsWellFormed old → IsWithinLimits old.tree → Run old turns last → IsWithinLimits last.tree
run_within [] old last fine within e = subst (λ (s : State). IsWithinLimits s.tree) (sym e) within
run_within (turn ∷ turns) old last fine within e =
    run_within turns e.0 last (turn_fine old turn e.0 fine e.1) (turn_within old turn e.0 fine within e.1) e.2

pub settled_within : (s : State) → IsWellFormed s → IsWithinLimits s.tree → IsWithinLimits (settled s).tree
settled_within s fine within = subst (λ (x : State). IsWithinLimits x.tree) (sym (settled_is s)) (left_within s fine (λ c n. None) (λ c n o e. absurd (cc)) within)
