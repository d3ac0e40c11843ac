-- The contents of all parts, by that of the shared medium and of the regions.
use Rattle.std.proofs.Common.{◌≡◌, ℕ, ◌%◌, ◌<◌, true, List, ◌++◌, refl, ap, sym, ◌∙◌, subst, arith}
use Rattle.std.specs.Prelude.{drop}
use Rattle.recovery_laws.specs.Contents.{CanRecover, log_in, mark_by, regions_in, stored_graph, stored_state}
use Rattle.event_lists.specs.Courses.{Content, WorldContent, part_of}
use Rattle.recovery_laws.specs.area_reader.Store.{graph, marks, store_of}
use Rattle.graph_check.specs.call_effects.ClosedGraph.{nobody, settled_graph}
use Rattle.graph_check.specs.call_effects.Wholes.{state_of}
use Rattle.graph_check.specs.file_graph.Graph.{Graph}
use Rattle.graph_check.specs.log_record.declared.format.Record.{Record}
use Rattle.log_survey.specs.update_log.RecordCounts.{next_generation, records_in, records_under}
use Rattle.log_survey.specs.update_log.View.{HasSize}
use Rattle.recovery_laws.specs.layout.Places.{Sizes}
use Rattle.recovery_laws.specs.layout.declared.marks.Mark.{Mark}
use Rattle.posix_calls.specs.Operations.{is_client}
use Rattle.posix_calls.specs.Tree.{State}
use Rattle.area_recovery.specs.Recovers.{AreThese, Recovers, Regions, joined, region_content}
use Rattle.area_recovery.proofs.JoinedRegions.{AreTurns, TakeTurns, counted_by, log_is, part_is, turns_are, turns_of}
use Rattle.area_recovery.proofs.Recovering.{same_graph, same_recoverable}

low_remainder : (g : ℕ) → g % 2 < 2
low_remainder g = omega arith

-- ---- regions that are alike to a recovery

module _ (these others : Regions) (alike : AreThese these others) where
  under_alike : (c g : ℕ) → is_client c ≡ true → records_in (others c) g ≡ records_in (these c) g
  under_alike c g is_c = ap (records_under g) (alike c (g % 2) is_c (low_remainder g))

  pub counted_alike : (m : Mark) (c : ℕ) → is_client c ≡ true → counted_by m (others c) ≡ counted_by m (these c)
  counted_alike m c is_c = λ k. drop m.done (under_alike c m.generation is_c k) ++ under_alike c (next_generation m.generation) is_c k

  turns_alike : (m : Mark) (c : ℕ) → is_client c ≡ true → TakeTurns m (these c) → TakeTurns m (others c)
  turns_alike m c is_c turns =
      subst (λ (rs : List Record). AreTurns m.done rs (records_in (others c) (next_generation m.generation))) (sym (under_alike c m.generation is_c))
      (subst (λ (rs : List Record). AreTurns m.done (records_in (these c) m.generation) rs) (sym (under_alike c (next_generation m.generation) is_c)) turns)

  module _ (g : Sizes) (state : State) (shared : Content) (r : Recovers g these state shared) where
    logs_alike : (c : ℕ) → is_client c ≡ true → log_in (joined shared these) c ≡ log_in (joined shared others) c
    logs_alike c is_c = log_is shared these c is_c ∙ sym (counted_alike (mark_by (marks (store_of shared)) c) c is_c) ∙ sym (log_is shared others c is_c)

    pub recovers_alike : Recovers g others state shared
    recovers_alike = record {
      can = record {
        volume = r.can.volume;
        opens = r.can.opens;
        sizes = λ c s is_c low. subst HasSize (part_is shared these c s is_c low ∙ ap region_content (sym (alike c s is_c low)) ∙ sym (part_is shared others c s is_c low)) (r.can.sizes c s is_c low);
        turns = λ c is_c. turns_of shared others c is_c (turns_alike (mark_by (marks (store_of shared)) c) c is_c (turns_are shared these c is_c (r.can.turns c is_c)));
        logs = same_recoverable (log_in (joined shared these)) (log_in (joined shared others)) logs_alike g.units (graph g (store_of shared)) r.can.logs;
      };
      stored = ap (λ (h : Graph). state_of (settled_graph h) nobody) (sym (same_graph (log_in (joined shared these)) (log_in (joined shared others)) logs_alike (graph g (store_of shared)))) ∙ r.stored;
    }

-- ---- the contents of all parts

module _ (g : Sizes) (c : WorldContent) where
  abbrev pub apart : WorldContent
  apart = joined (c 0) (regions_in c)

  log_whole : (d : ℕ) → is_client d ≡ true → log_in apart d ≡ log_in c d
  log_whole d is_d = log_is (c 0) (regions_in c) d is_d

  graph_whole : stored_graph g apart ≡ stored_graph g c
  graph_whole = same_graph (log_in apart) (log_in c) log_whole (graph g (store_of (c 0)))

  state_whole : stored_state g apart ≡ stored_state g c
  state_whole = ap (λ (h : Graph). state_of (settled_graph h) nobody) graph_whole

  region_sized : (d r : ℕ) → is_client d ≡ true → r < 2 → HasSize (c (part_of d r)) → HasSize (apart (part_of d r))
  region_sized d r is_d low size = subst HasSize (sym (part_is (c 0) (regions_in c) d r is_d low)) (record { fast = size.fast; block = refl; slow = refl })

  -- what a recovery takes of them, it takes of the shared medium and the regions
  pub whole_recovers : CanRecover g c → Recovers g (regions_in c) (stored_state g c) (c 0)
  whole_recovers r = record {
    can = record {
      volume = r.volume;
      opens = r.opens;
      sizes = λ d s is_d low. region_sized d s is_d low (r.sizes d s is_d low);
      turns = λ d is_d. turns_of (c 0) (regions_in c) d is_d (r.turns d is_d);
      logs = same_recoverable (log_in c) (log_in apart) (λ d is_d. sym (log_whole d is_d)) g.units (graph g (store_of (c 0))) r.logs;
    };
    stored = state_whole;
  }

  -- and so the other way, where the parts have their sizes
  module _ (sizes : (d r : ℕ) → is_client d ≡ true → r < 2 → HasSize (c (part_of d r))) (state : State) (r : Recovers g (regions_in c) state (c 0)) where
    pub recovers_whole : CanRecover g c
    recovers_whole = record {
      volume = r.can.volume;
      opens = r.can.opens;
      sizes = sizes;
      turns = λ d is_d. turns_are (c 0) (regions_in c) d is_d (r.can.turns d is_d);
      logs = same_recoverable (log_in apart) (log_in c) log_whole g.units (graph g (store_of (c 0))) r.can.logs;
    }

    pub stored_whole : stored_state g c ≡ state
    stored_whole = sym state_whole ∙ r.stored
