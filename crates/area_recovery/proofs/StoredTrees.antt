-- The tree that parts store, by what is found of the clients' logs.
use Rattle.std.proofs.Common.{◌≡◌, ℕ, true, ap, sym, ◌∙◌, subst}
use Rattle.std.specs.Prelude.{Option, Some}
use Rattle.recovery_laws.specs.batch_journal.Volume.{IsVolume}
use Rattle.recovery_laws.specs.area_reader.Format.{IsOpenable}
use Rattle.recovery_laws.specs.area_reader.Store.{graph, marks, store_of}
use Rattle.recovery_laws.specs.layout.declared.marks.Marks.{Marks}
use Rattle.recovery_laws.specs.Contents.{log_in, mark_by, regions_in, stored_graph, stored_state}
use Rattle.event_lists.specs.Courses.{WorldContent}
use Rattle.graph_check.specs.call_effects.ClosedGraph.{nobody, settled_graph}
use Rattle.graph_check.specs.call_effects.Wholes.{IsSound, state_of}
use Rattle.recovery_laws.specs.digester.MarkMoves.{mark_of}
use Rattle.recovery_laws.specs.layout.Places.{Sizes}
use Rattle.graph_check.specs.file_graph.Graph.{Graph}
use Rattle.log_survey.specs.world_invariant.Logs.{LogsAreApart, after_clients, is_written}
use Rattle.posix_calls.specs.Operations.{is_client}
use Rattle.area_recovery.specs.DigestedLogs.{CanDigestAll}
use Rattle.area_recovery.specs.FoundLogs.{log_by}
use Rattle.area_recovery.specs.Recovers.{AreThese, Regions}
use Rattle.area_recovery.specs.RecoveryStops.{StoresTree}
use Rattle.area_recovery.proofs.DigestibleLogs.{digest_all_same}
use Rattle.area_recovery.proofs.JoinedRegions.{counted_by}
use Rattle.area_recovery.proofs.Recovering.{same_graph}
use Rattle.area_recovery.proofs.WholeContents.{counted_alike}

module _ (g : Sizes) (c : WorldContent) (these : Regions) (alike : AreThese these (regions_in c)) (v : Marks) (is : marks (store_of (c 0)) ≡ Some v) where
  pub log_found : (d : ℕ) → is_client d ≡ true → log_in c d ≡ log_by v these d
  log_found d is_d = ap (λ (o : Option Marks). counted_by (mark_by o d) (regions_in c d)) is ∙ counted_alike these (regions_in c) alike (mark_of v d) d is_d

  graph_found : stored_graph g c ≡ after_clients (log_by v these) (graph g (store_of (c 0))) 8
  graph_found = same_graph (log_in c) (log_by v these) log_found (graph g (store_of (c 0)))

  pub state_found : stored_state g c ≡ state_of (settled_graph (after_clients (log_by v these) (graph g (store_of (c 0))) 8)) nobody
  state_found = ap (λ (h : Graph). state_of (settled_graph h) nobody) graph_found

  pub tree_is_stored : IsVolume g (c 0) → IsOpenable g (store_of (c 0)) → LogsAreApart (log_by v these) → CanDigestAll g.units (graph g (store_of (c 0))) (log_by v these) → IsSound (after_clients (log_by v these) (graph g (store_of (c 0))) 8) nobody → StoresTree g c
  tree_is_stored volume opens apart good sound = record {
    volume = volume;
    opens = opens;
    apart = λ d e i is_d is_e other w. ap (is_written i) (log_found e is_e) ∙ apart d e i is_d is_e other (sym (ap (is_written i) (log_found d is_d)) ∙ w);
    good = digest_all_same (log_in c) (log_by v these) log_found g.units (graph g (store_of (c 0))) good;
    sound = subst (λ (h : Graph). IsSound h nobody) (sym graph_found) sound;
  }
