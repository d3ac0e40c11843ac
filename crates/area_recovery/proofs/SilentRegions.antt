-- Regions in which nothing counts.
use Rattle.std.proofs.Common.{◌≡◌, inr, ℕ, zero, suc, ◌+◌, ◌-◌, ◌%◌, ◌<◌, ◌≤◌, List, [], ◌++◌, true, refl, ap, sym, ◌∙◌, subst, arith}
use Rattle.std.proofs.lemmas.Bool.Decides.{nat_tests}
use Rattle.std.specs.Prelude.{slice_index}
use Rattle.tier_device.specs.declared.media.Tier.TheVariants.{Fast}
use Rattle.graph_check.specs.log_record.declared.format.Record.{Record}
use Rattle.log_survey.specs.update_log.RecordCounts.{counted_records, next_generation, records_in, records_under}
use Rattle.log_survey.specs.update_log.View.{HasSize}
use Rattle.recovery_laws.specs.Contents.{AreInTurn, log_in, mark_by, mark_in, regions_in}
use Rattle.event_lists.specs.Courses.{Content, part_of}
use Rattle.recovery_laws.specs.area_reader.Store.{graph, store_of}
use Rattle.graph_check.specs.call_effects.ClosedGraph.{nobody, settled_graph}
use Rattle.graph_check.specs.call_effects.Wholes.{IsSound, state_of}
use Rattle.graph_check.specs.file_graph.Graph.{Graph}
use Rattle.graph_check.specs.file_graph.Units.{charge}
use Rattle.log_survey.specs.world_invariant.Logs.{after_clients, after_records, units_in, ArePaid, KeepLimits, is_written}
use Rattle.log_survey.specs.world_invariant.Recovery.{IsRecoverable}
use Rattle.recovery_laws.specs.layout.Places.{Sizes}
use Rattle.recovery_laws.specs.layout.declared.marks.Mark.{Mark}
use Rattle.posix_calls.specs.Operations.{is_client}
use Rattle.posix_calls.specs.Tree.{State, sum_up_to}
use Rattle.area_recovery.specs.Recovers.{Recovers, Regions, joined}
use Rattle.area_recovery.specs.Silent.{AreMarked, AreSilent}
use Rattle.area_recovery.proofs.JoinedRegions.{part_is}

pub client_bounds : (c : ℕ) → is_client c ≡ true → (1 ≤ c) × (c ≤ 8)
client_bounds c is = (grind (arith, nat_tests), grind (arith, nat_tests))

pub bounds_client : (c : ℕ) → 1 ≤ c → c ≤ 8 → is_client c ≡ true
bounds_client c low high = grind (arith, nat_tests)

-- what is read of a client's region, among all contents
pub read_at : (shared : Content) (regions : Regions) (c r : ℕ) → is_client c ≡ true → r < 2 → regions_in (joined shared regions) c r ≡ regions c r
read_at shared regions c r is_c low = ap (λ (content : Content). content Fast) (part_is shared regions c r is_c low)

-- ---- logs that are the same for each client

pub alike_after : (n : ℕ) (logs others : ℕ → List Record) (g : Graph) → ((c : ℕ) → 1 ≤ c → c ≤ n → others c ≡ logs c) → after_clients others g n ≡ after_clients logs g n
unfolding after_clients
alike_after zero logs others g same = refl
alike_after (suc n) logs others g same =
    let rest = alike_after n logs others g (λ c low high. same c low (omega (arith, high))) in
    λ k. after_records (rest k) (same (suc n) (omega arith) (omega arith) k)

pub alike_sum : (n : ℕ) (f h : ℕ → ℕ) → ((c : ℕ) → 1 ≤ c → c ≤ n → h c ≡ f c) → sum_up_to n h ≡ sum_up_to n f
unfolding sum_up_to
alike_sum zero f h same = refl
alike_sum (suc n) f h same =
    let rest = alike_sum n f h (λ c low high. same c low (omega (arith, high))) in
    λ k. same (suc n) (omega arith) (omega arith) k + rest k

module _ (capacity : ℕ) (g : Graph) (logs others : ℕ → List Record) (same : (c : ℕ) → is_client c ≡ true → others c ≡ logs c) where
  near : (c : ℕ) → 1 ≤ c → c ≤ 8 → others c ≡ logs c
  near c low high = same c (bounds_client c low high)

  pub same_after : after_clients others g 8 ≡ after_clients logs g 8
  same_after = alike_after 8 logs others g near

  pub recoverable_alike : IsRecoverable capacity g logs → IsRecoverable capacity g others
  recoverable_alike r = record {
    apart = λ c d i is_c is_d off e. ap (is_written i) (same d is_d) ∙ r.apart c d i is_c is_d off (sym (ap (is_written i) (same c is_c)) ∙ e);
    limits = r.limits;
    keep = λ c is_c. subst (KeepLimits g) (sym (same c is_c)) (r.keep c is_c);
    paid = λ c is_c. subst (ArePaid g) (sym (same c is_c)) (r.paid c is_c);
    fits = subst (λ (n : ℕ). charge g + n ≤ capacity) (sym (alike_sum 8 (λ c. units_in (logs c)) (λ c. units_in (others c)) (λ c low high. ap units_in (near c low high)))) r.fits;
    sound = subst (λ (h : Graph). IsSound h nobody) (sym same_after) r.sound;
  }

-- ---- under marks of which no record is done

module _ (generations : List ℕ) (shared : Content) (m : AreMarked generations shared) where
  pub mark_is : (regions : Regions) (c : ℕ) → is_client c ≡ true → mark_in (joined shared regions) c ≡ record { generation = slice_index generations (c - 1); done = 0 }
  mark_is regions c is_c = ap (λ o. mark_by o c) m.1 ∙ m.2 c is_c

  low_remainder : (g : ℕ) → g % 2 < 2
  low_remainder g = omega arith

  module _ (regions : Regions) (silent : AreSilent generations regions) (c : ℕ) (is_c : is_client c ≡ true) where
    abbrev own : ℕ
    own = slice_index generations (c - 1)

    own_none : records_in (regions_in (joined shared regions) c) own ≡ []
    own_none = ap (records_under own) (read_at shared regions c (own % 2) is_c (low_remainder own)) ∙ (silent c (own % 2) is_c (low_remainder own)).own

    next_none : records_in (regions_in (joined shared regions) c) (next_generation own) ≡ []
    next_none = ap (records_under (next_generation own)) (read_at shared regions c (next_generation own % 2) is_c (low_remainder (next_generation own)))
        ∙ (silent c (next_generation own % 2) is_c (low_remainder (next_generation own))).next

    pub log_none : log_in (joined shared regions) c ≡ []
    log_none = ap (λ (k : Mark). counted_records k.generation k.done (regions_in (joined shared regions) c)) (mark_is regions c is_c) ∙ (λ k. own_none k ++ next_none k)

    pub in_turn : AreInTurn (joined shared regions) c
    in_turn = inr (ap (λ (k : Mark). records_in (regions_in (joined shared regions) c) (next_generation k.generation)) (mark_is regions c is_c) ∙ next_none)

    pub sized : (r : ℕ) → r < 2 → HasSize (joined shared regions (part_of c r))
    sized r low = subst HasSize (sym (part_is shared regions c r is_c low)) (record { fast = (silent c r is_c low).long; block = refl; slow = refl })

  pub same_state : (g : Sizes) (state : State) (regions others : Regions) → AreSilent generations regions → AreSilent generations others → Recovers g regions state shared → Recovers g others state shared
  same_state g state regions others silent silent' r =
      let same : (c : ℕ) → is_client c ≡ true → log_in (joined shared others) c ≡ log_in (joined shared regions) c = λ c is_c. log_none others silent' c is_c ∙ sym (log_none regions silent c is_c) in
      let after = same_after g.units (graph g (store_of shared)) (log_in (joined shared regions)) (log_in (joined shared others)) same in
      record {
        can = record {
          volume = r.can.volume;
          opens = r.can.opens;
          sizes = λ c k is_c low. sized others silent' c is_c k low;
          turns = λ c is_c. in_turn others silent' c is_c;
          logs = recoverable_alike g.units (graph g (store_of shared)) (log_in (joined shared regions)) (log_in (joined shared others)) same r.can.logs;
        };
        stored = ap (λ (h : Graph). state_of (settled_graph h) nobody) after ∙ r.stored;
      }
