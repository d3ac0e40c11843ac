-- The tree of a running system is that of the world that it stands for.
use Rattle.std.proofs.Common.{◌≡◌, ℕ, zero, suc, ◌≤◌, cond, true, false, List, Option, Some, None, refl, ap, sym, ◌∙◌, arith}
use Rattle.tier_device.specs.declared.media.Media.{Ghosts}
use Rattle.tier_device.specs.declared.media.Tier.{Tier}
use Rattle.posix_calls.specs.Operations.{is_client}
use Rattle.posix_calls.specs.declared.limits.TheConstants.{MAX_CLIENTS}
use Rattle.event_steps.specs.area_reader.Store.{disk, graph, marks}
use Rattle.event_steps.specs.call_effects.Knowledge.{Knowledge}
use Rattle.event_steps.specs.call_effects.Wholes.{state_of}
use Rattle.posix_calls.specs.Tree.{Descriptors}
use Rattle.event_steps.specs.file_graph.Graph.{Graph}
use Rattle.event_steps.specs.log_record.declared.format.Record.{Record}
use Rattle.event_steps.specs.layout.declared.marks.Marks.{Marks}
use Rattle.event_steps.specs.world_invariant.Logs.{after_clients, after_records}
use Rattle.event_steps.specs.world_invariant.World.{World, held_descriptors, log_of, whole_graph, world_state}
use Rattle.event_steps.specs.View.{SeatView, seat_of}
use Rattle.event_steps.proofs.world_invariant_lemmas.Owners.{client_is}
use Rattle.system_laws.specs.Leaves.{SystemLeaves}
use Rattle.system_laws.specs.Relation.{Cut, IsWorldOf}
use Rattle.recovery_laws.specs.Contents.{mark_by}
use Rattle.system_laws.specs.WorldTree.{log_by, opened_by, opened_in, world_tree}
use Rattle.system_laws.specs.WorldView.{WorldView, calls_of}
use Rattle.system_laws.proofs.MarkPlaces.{behind_mark}
use Rattle.system_laws.proofs.SpelledWorlds.{IsSpelled, spelled_left, spelled_now}

-- the graph after logs that are the same for every client
same_logs : (n : ℕ) (new old : ℕ → List Record) (g : Graph) → ((d : ℕ) → 1 ≤ d → d ≤ n → new d ≡ old d) → after_clients new g n ≡ after_clients old g n
unfolding after_clients
same_logs zero new old g same = refl
same_logs (suc n) new old g same =
    ap (λ h. after_records h (new (suc n))) (same_logs n new old g (λ d low high. same d low (omega (arith, high))))
    ∙ ap (λ rs. after_records (after_clients old g n) rs) (same (suc n) (omega arith) (omega arith))

-- Of a graph and marks that the shared medium may have.
module _ {M : Type 0} (device : Ghosts M) (v : WorldView M) (w now : World) (ms : Marks) (is : IsSpelled device v w now ms) where
  -- what the clients have open
  opened_is : opened_in v.system ≡ held_descriptors now
  opened_is = λ t c n. at c n t
    where
      at : (c n : ℕ) → opened_in v.system c n ≡ held_descriptors now c n
      at c n = elim (is_client c) as (λ b. is_client c ≡ b → cond b (opened_by (seat_of v.system c) n) None ≡ cond b ((now.clients c).knows.own n) None) [
        | true ↦ λ is_c. let there = is.seats c is_c in ap (λ (o : Option (SeatView M)). opened_by o n) there.1 ∙ sym (ap (λ (k : Knowledge). k.own n) there.2.of.knows)
        | false ↦ λ no. refl
      ] refl

  -- the records of each client behind its mark are those that are not digested
  pub log_is : (c : ℕ) → is_client c ≡ true → log_by device (mark_by (Some ms) c) (seat_of v.system c) ≡ log_of now c
  log_is c is_c =
      let there = is.seats c is_c in
      ap (λ (o : Option (SeatView M)). log_by device (mark_by (Some ms) c) o) there.1
      ∙ behind_mark device there.0 (now.kernel.accounts c) (now.clients c) (calls_of v c) there.2.seated there.2.of (mark_by (Some ms) c) there.2.mark

  -- over the graph they make the tree
  pub tree_of_spelled : (g : Graph) (marks_read : Option Marks) → g ≡ now.kernel.shared → marks_read ≡ Some ms → state_of (after_clients (λ c. log_by device (mark_by marks_read c) (seat_of v.system c)) g MAX_CLIENTS) (opened_in v.system) ≡ world_state w
  tree_of_spelled g marks_read graph_is marks_are =
      ap (λ (r : Option Marks). state_of (after_clients (λ c. log_by device (mark_by r c) (seat_of v.system c)) g 8) (opened_in v.system)) marks_are
      ∙ ap (λ (h : Graph). state_of (after_clients (λ c. log_by device (mark_by (Some ms) c) (seat_of v.system c)) h 8) (opened_in v.system)) graph_is
      ∙ ap (λ (h : Graph). state_of h (opened_in v.system)) (same_logs 8 (λ c. log_by device (mark_by (Some ms) c) (seat_of v.system c)) (log_of now) now.kernel.shared (λ d low high. log_is d (client_is d low high)))
      ∙ ap (λ (o : Descriptors). state_of (whole_graph now) o) opened_is
      ∙ is.tree

-- The tree that a system stands for is that of its world: also once a device of the kernel has failed, since what is read is left now.
pub tree_is : {M : Type 0} (device : Ghosts M) (v : WorldView M) (w : World) (accepted : ℕ → ℕ) (shared_marks : Marks) (cut : Cut)
    → IsWorldOf device v w accepted shared_marks cut → SystemLeaves device v.system → ((m : M) (t : Tier) → device.left m (device.moment m) t (device.seen m t)) → world_tree device v ≡ world_state w
tree_is device v w accepted shared_marks cut is leaves seen_now =
    let area = v.system.kernel.area in
    elim (area.failed) as (λ b. area.failed ≡ b → world_tree device v ≡ world_state w) [
      | false ↦ λ going.
          let read = is.going going in
          tree_of_spelled device v w w shared_marks (spelled_now device v w accepted shared_marks cut is leaves) (graph area.geometry (disk device area)) (marks (disk device area)) (sym read.0.shared) read.1
      | true ↦ λ failed.
          let left = spelled_left device v w accepted shared_marks cut is leaves (device.seen area.media) (is.stopped failed (device.seen area.media) (λ t. seen_now area.media t)) in
          tree_of_spelled device v w left.0 left.1 left.2 (graph area.geometry (disk device area)) (marks (disk device area)) left.3.graph_is left.3.marks_are
    ] refl
