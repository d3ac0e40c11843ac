-- A run is migrated: every node and every client's account stays, and so does all that is said of the world.
use Rattle.std.proofs.Common.{◌≡◌, ℕ, zero, suc, ◌+◌, ◌≤◌, true, List, refl, ap, sym, ◌∙◌, subst, arith}
use Rattle.posix_calls.specs.Tree.{sum_up_to}
use Rattle.posix_calls.specs.Operations.{is_client}
use Rattle.call_effects.specs.file_graph.Graph.{Graph}
use Rattle.call_effects.specs.file_graph.Units.{charge}
use Rattle.call_effects.specs.Wholes.{IsSound, state_of}
use Rattle.call_effects.specs.Knowledge.{Agrees}
use Rattle.call_effects.specs.log_record.declared.format.Record.{Record}
use Rattle.world_invariant.specs.Limits.{IsWithin}
use Rattle.world_invariant.specs.Logs.{after_records, after_clients}
use Rattle.world_invariant.specs.World.{Account, Kernel, World, undigested_records, log_of, whole_graph, held_descriptors, world_state}
use Rattle.world_invariant.specs.ClientParts.{IsSoundPart, IsBooked}
use Rattle.world_invariant.specs.Invariant.{IsCoherent}
use Rattle.world_invariant.specs.KernelSteps.{IsMigrated, run_migrated}
use Rattle.world_invariant.specs.Machine.{Machine, IsRunning, migrate}
use Rattle.world_invariant.specs.Stop.{stored_graph}
use Rattle.world_invariant.proofs.Owners.{client_is}

same_sum : (n : ℕ) (f g : ℕ → ℕ) → ((d : ℕ) → 1 ≤ d → d ≤ n → f d ≡ g d) → sum_up_to n f ≡ sum_up_to n g
unfolding sum_up_to
same_sum zero f g same = refl
same_sum (suc n) f g same =
    let here : f (suc n) ≡ g (suc n) = same (suc n) (omega arith) (omega arith) in
    let before : sum_up_to n f ≡ sum_up_to n g = same_sum n f g (λ d low high. same d low (omega (arith, high))) in
    omega (arith, here, before)

same_logs : (n : ℕ) (new old : ℕ → List Record) (g : Graph) → ((d : ℕ) → 1 ≤ d → d ≤ n → new d ≡ old d) → after_clients new g n ≡ after_clients old g n
unfolding after_clients
same_logs zero new old g same = refl
same_logs (suc n) new old g same =
    ap (λ h. after_records h (new (suc n))) (same_logs n new old g (λ d low high. same d low (omega (arith, high))))
    ∙ ap (λ rs. after_records (after_clients old g n) rs) (same (suc n) (omega arith) (omega arith))

module _ (before after : Kernel) (is : IsMigrated before after) where
  shared_same : after.shared ≡ before.shared
  shared_same = λ t i. is.nodes i t

  pub charged_same : charge after.shared ≡ charge before.shared
  charged_same = ap charge shared_same

  number_was : (c i : ℕ) → is_client c ≡ true → (after.accounts c).numbers i ≡ true → (before.accounts c).numbers i ≡ true
  number_was c i is_c e = ap (λ (a : Account). a.numbers i) (sym (is.accounts c is_c)) ∙ e

  units_same : sum_up_to 8 (λ c. (after.accounts c).units) ≡ sum_up_to 8 (λ c. (before.accounts c).units)
  units_same = same_sum 8 (λ c. (after.accounts c).units) (λ c. (before.accounts c).units) (λ d low high. ap (λ (a : Account). a.units) (is.accounts d (client_is d low high)))

  booked_still : IsBooked before → IsBooked after
  booked_still b =
      let cost : charge after.shared ≡ charge before.shared = charged_same in
      let out : sum_up_to 8 (λ c. (after.accounts c).units) ≡ sum_up_to 8 (λ c. (before.accounts c).units) = units_same in
      let room : after.capacity ≡ before.capacity = is.capacity in
      let fits : charge before.shared + sum_up_to 8 (λ c. (before.accounts c).units) ≤ before.capacity = b.fits in
      record {
        free = λ c i is_c e. is.nodes i ∙ b.free c i is_c (number_was c i is_c e);
        range = λ c i is_c e. b.range c i is_c (number_was c i is_c e);
        alone = λ c d i is_c is_d apart e. ap (λ (a : Account). a.numbers i) (is.accounts d is_d) ∙ b.alone c d i is_c is_d apart (number_was c i is_c e);
        limits = λ i. subst (IsWithin i) (sym (is.nodes i)) (b.limits i);
        fits = omega (arith, cost, out, room, fits);
      }

module _ (w : World) (after : Kernel) (is : IsMigrated w.kernel after) where
  pub migrated_whole : whole_graph (run_migrated w after) ≡ whole_graph w
  migrated_whole =
      ap (λ g. after_clients (log_of (run_migrated w after)) g 8) (shared_same w.kernel after is)
      ∙ same_logs 8 (log_of (run_migrated w after)) (log_of w) w.kernel.shared (λ d low high. ap (λ a. undigested_records a (w.clients d)) (is.accounts d (client_is d low high)))

  pub migrated_tree : world_state (run_migrated w after) ≡ world_state w
  migrated_tree = ap (λ g. state_of g (held_descriptors w)) migrated_whole

  pub migrated_stored : (logs : ℕ → List Record) → stored_graph (run_migrated w after) logs ≡ stored_graph w logs
  migrated_stored logs = ap (λ g. after_clients logs g 8) (shared_same w.kernel after is)

  pub migrated_holds : IsCoherent w → IsCoherent (run_migrated w after)
  migrated_holds h = record {
    booked = booked_still w.kernel after is h.booked;
    stands = λ c is_c. subst (λ g. IsSoundPart g (after.accounts c) c (w.clients c)) (sym (shared_same w.kernel after is)) (subst (λ a. IsSoundPart w.kernel.shared a c (w.clients c)) (sym (is.accounts c is_c)) (h.stands c is_c));
    beside = h.beside;
    sound = subst (λ g. IsSound g (held_descriptors w)) (sym migrated_whole) h.sound;
    agrees = λ c is_c. subst (λ g. Agrees (w.clients c).knows g (held_descriptors w)) (sym migrated_whole) (h.agrees c is_c);
  }

pub migrated_runs : (m : Machine) (after : Kernel) → IsRunning m → IsMigrated m.kernel after → IsRunning (migrate m after)
migrated_runs m after r is = record {
  booked = booked_still m.kernel after is r.booked;
  accepted = λ c is_c. subst (λ (a : Account). a.mark ≤ m.accepted c) (sym (is.accounts c is_c)) (r.accepted c is_c);
}
