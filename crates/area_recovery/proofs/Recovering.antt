-- A content that differs from one that is recovered is recovered to the same state: where it has the same graph and marks; and where no record counts and the graph stands for the same.
use Rattle.std.proofs.Common.{◌≡◌, inr, ℕ, zero, suc, ◌+◌, ◌<◌, ◌≤◌, true, List, [], ◌∷◌, ◌++◌, refl, ap, sym, ◌∙◌, subst, arith}
use Rattle.std.specs.Prelude.{Option}
use Rattle.posix_calls.specs.Tree.{State, sum_up_to}
use Rattle.posix_calls.specs.Operations.{is_client}
use Rattle.graph_check.specs.file_graph.Graph.{Graph}
use Rattle.graph_check.specs.file_graph.Units.{charge}
use Rattle.graph_check.specs.log_record.declared.format.Record.{Record}
use Rattle.log_survey.specs.update_log.View.{HasSize}
use Rattle.recovery_laws.specs.layout.Places.{Sizes}
use Rattle.recovery_laws.specs.layout.declared.marks.Marks.{Marks}
use Rattle.recovery_laws.specs.batch_journal.Volume.{IsVolume}
use Rattle.recovery_laws.specs.area_reader.Format.{IsOpenable}
use Rattle.recovery_laws.specs.area_reader.Store.{graph, marks, store_of}
use Rattle.graph_check.specs.call_effects.ClosedGraph.{nobody, settled_graph}
use Rattle.graph_check.specs.call_effects.Wholes.{IsSound, state_of}
use Rattle.log_survey.specs.world_invariant.Limits.{AreWithin}
use Rattle.log_survey.specs.world_invariant.Logs.{after_clients, after_records, is_written, units_in, ArePaid, KeepLimits}
use Rattle.log_survey.specs.world_invariant.Recovery.{IsRecoverable}
use Rattle.event_lists.specs.Courses.{Content, part_of}
use Rattle.recovery_laws.specs.Contents.{AreInTurn, log_in, mark_by, stored_graph}
use Rattle.log_survey.proofs.world_invariant_lemmas.Owners as owners
use Rattle.log_survey.proofs.world_invariant_lemmas.Recoveries.{recovered_sound, settled_same}
use Rattle.recovery_laws.proofs.AreaLimits.{area_within}
use Rattle.area_recovery.specs.Recovers.{Regions, Recovers, CountNone, joined}
use Rattle.area_recovery.proofs.JoinedRegions.{TakeTurns, counted_by, log_is, part_is, turns_are, turns_of}

-- ---- logs that are the same for each client

pub same_after : (n : ℕ) (logs more : ℕ → List Record) (g : Graph) → ((d : ℕ) → 1 ≤ d → d ≤ n → logs d ≡ more d) → after_clients logs g n ≡ after_clients more g n
unfolding after_clients
same_after zero logs more g same = refl
same_after (suc n) logs more g same =
    ap (λ (h : Graph). after_records h (logs (suc n))) (same_after n logs more g (λ d low high. same d low (omega (arith, high))))
    ∙ ap (after_records (after_clients more g n)) (same (suc n) (omega arith) (omega arith))

same_sum : (n : ℕ) (f h : ℕ → ℕ) → ((d : ℕ) → 1 ≤ d → d ≤ n → f d ≡ h d) → sum_up_to n f ≡ sum_up_to n h
unfolding sum_up_to
same_sum zero f h same = refl
same_sum (suc n) f h same =
    let last = same (suc n) (omega arith) (omega arith) in
    let rest = same_sum n f h (λ d low high. same d low (omega (arith, high))) in
    omega (arith, last, rest)

module _ (logs more : ℕ → List Record) (same : (d : ℕ) → is_client d ≡ true → logs d ≡ more d) where
  pub same_graph : (g : Graph) → after_clients logs g 8 ≡ after_clients more g 8
  same_graph g = same_after 8 logs more g (λ d low high. same d (owners.client_is d low high))

  pub same_recoverable : (capacity : ℕ) (g : Graph) → IsRecoverable capacity g logs → IsRecoverable capacity g more
  same_recoverable capacity g r = record {
    apart = λ c d i is_c is_d other e. ap (is_written i) (sym (same d is_d)) ∙ r.apart c d i is_c is_d other (ap (is_written i) (same c is_c) ∙ e);
    limits = r.limits;
    keep = λ c is_c. subst (λ (rs : List Record). KeepLimits g rs) (same c is_c) (r.keep c is_c);
    paid = λ c is_c. subst (λ (rs : List Record). ArePaid g rs) (same c is_c) (r.paid c is_c);
    fits = subst (λ (n : ℕ). charge g + n ≤ capacity) (same_sum 8 (λ d. units_in (logs d)) (λ d. units_in (more d)) (λ d low high. ap units_in (same d (owners.client_is d low high)))) r.fits;
    sound = subst (λ (h : Graph). IsSound h nobody) (same_graph g) r.sound;
  }

-- ---- no records at all

pub no_records_stay : (g : Graph) → after_clients (λ d. []) g 8 ≡ g
no_records_stay g = λ t i. owners.nobody 8 (λ d. []) g i (λ d low high. refl) t

no_units : sum_up_to 8 (λ d. 0) ≡ 0
unfolding sum_up_to
no_units = refl

pub nothing_recoverable : (capacity : ℕ) (g : Graph) → AreWithin g → charge g ≤ capacity → IsSound g nobody → IsRecoverable capacity g (λ d. [])
nothing_recoverable capacity g within fits sound = record {
  apart = λ c d i is_c is_d other e. refl;
  limits = within;
  keep = λ c is_c. tt;
  paid = λ c is_c. tt;
  fits = (let none = no_units in omega (arith, none, fits));
  sound = subst (λ (h : Graph). IsSound h nobody) (sym (no_records_stay g)) sound;
}

-- ---- contents of the shared medium

module _ (g : Sizes) (regions : Regions) (state : State) (old new : Content) (r : Recovers g regions state old) (volume : IsVolume g new) (opens : IsOpenable g (store_of new)) where
  sizes_still : (c s : ℕ) → is_client c ≡ true → s < 2 → HasSize (joined new regions (part_of c s))
  sizes_still c s is_c small = subst HasSize (part_is old regions c s is_c small ∙ sym (part_is new regions c s is_c small)) (r.can.sizes c s is_c small)

  module _ (same_graph_read : graph g (store_of new) ≡ graph g (store_of old)) (same_marks : marks (store_of new) ≡ marks (store_of old)) where
    same_logs : (d : ℕ) → is_client d ≡ true → log_in (joined old regions) d ≡ log_in (joined new regions) d
    same_logs d is_d = log_is old regions d is_d ∙ ap (λ (v : Option Marks). counted_by (mark_by v d) (regions d)) (sym same_marks) ∙ sym (log_is new regions d is_d)

    turns_still : (d : ℕ) → is_client d ≡ true → AreInTurn (joined new regions) d
    turns_still d is_d = turns_of new regions d is_d (subst (λ (v : Option Marks). TakeTurns (mark_by v d) (regions d)) (sym same_marks) (turns_are old regions d is_d (r.can.turns d is_d)))

    same_stored : stored_graph g (joined new regions) ≡ stored_graph g (joined old regions)
    same_stored =
        ap (λ (h : Graph). after_clients (log_in (joined new regions)) h 8) same_graph_read
        ∙ sym (same_graph (log_in (joined old regions)) (log_in (joined new regions)) same_logs (graph g (store_of old)))

    -- the same graph and marks
    pub recovers_same : Recovers g regions state new
    recovers_same = record {
      can = record {
        volume = volume;
        opens = opens;
        sizes = sizes_still;
        turns = turns_still;
        logs = subst (λ (h : Graph). IsRecoverable g.units h (log_in (joined new regions))) (sym same_graph_read) (same_recoverable (log_in (joined old regions)) (log_in (joined new regions)) same_logs g.units (graph g (store_of old)) r.can.logs);
      };
      stored = ap (λ (h : Graph). state_of (settled_graph h) nobody) same_stored ∙ r.stored;
    }

  module _ (none_old : CountNone regions (marks (store_of old))) (none_new : CountNone regions (marks (store_of new))) where
    no_old : (d : ℕ) → is_client d ≡ true → log_in (joined old regions) d ≡ []
    no_old d is_d = log_is old regions d is_d ∙ none_old d is_d

    no_new : (d : ℕ) → is_client d ≡ true → log_in (joined new regions) d ≡ []
    no_new d is_d = log_is new regions d is_d ∙ none_new d is_d

    old_stored : stored_graph g (joined old regions) ≡ graph g (store_of old)
    old_stored = same_graph (log_in (joined old regions)) (λ d. []) no_old (graph g (store_of old)) ∙ no_records_stay (graph g (store_of old))

    new_stored : stored_graph g (joined new regions) ≡ graph g (store_of new)
    new_stored = same_graph (log_in (joined new regions)) (λ d. []) no_new (graph g (store_of new)) ∙ no_records_stay (graph g (store_of new))

    pub sound_now : IsSound (graph g (store_of old)) nobody
    sound_now = recovered_sound g.units (graph g (store_of old)) (log_in (joined old regions)) r.can.logs no_old

    nothing_next : (a b : List Record) → a ++ b ≡ [] → b ≡ []
    nothing_next [] b e = e
    nothing_next (x ∷ a) b e = absurd (cc e)

    turns_over : (d : ℕ) → is_client d ≡ true → AreInTurn (joined new regions) d
    turns_over d is_d = turns_of new regions d is_d (inr (nothing_next _ _ (none_new d is_d)))

    -- a sound graph that stands for the same
    pub recovers_over : IsSound (graph g (store_of new)) nobody → state_of (graph g (store_of new)) nobody ≡ state_of (graph g (store_of old)) nobody → Recovers g regions state new
    recovers_over sound same = record {
      can = record {
        volume = volume;
        opens = opens;
        sizes = sizes_still;
        turns = turns_over;
        logs = same_recoverable (λ d. []) (log_in (joined new regions)) (λ d is_d. sym (no_new d is_d)) g.units (graph g (store_of new)) (nothing_recoverable g.units (graph g (store_of new)) (area_within g (store_of new) opens) opens.units sound);
      };
      stored =
          ap (λ (h : Graph). state_of (settled_graph h) nobody) new_stored
          ∙ sym (settled_same (graph g (store_of new)) sound)
          ∙ same
          ∙ settled_same (graph g (store_of old)) sound_now
          ∙ ap (λ (h : Graph). state_of (settled_graph h) nobody) (sym old_stored)
          ∙ r.stored;
    }
