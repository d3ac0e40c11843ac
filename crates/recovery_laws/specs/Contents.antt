-- What the contents of all parts store, and which a recovery takes.
use Rattle.std.specs.Prelude.{◌≡◌, ◌≢◌, ◌⊎◌, ℕ, ◌<◌, List, [], drop, true, Option, Some, None}
use Rattle.tier_device.specs.declared.media.Tier.TheVariants.{Fast}
use Rattle.posix_calls.specs.Tree.{State}
use Rattle.posix_calls.specs.Operations.{is_client}
use Rattle.posix_calls.specs.declared.limits.TheConstants.{MAX_CLIENTS}
use Rattle.layout.specs.file_graph.Graph.{Graph}
use Rattle.update_log.specs.log_record.declared.format.Record.{Record}
use Rattle.update_log.specs.RecordCounts.{counted_records, next_generation, records_in}
use Rattle.update_log.specs.View.{HasSize}
use Rattle.layout.specs.Places.{Sizes}
use Rattle.layout.specs.declared.marks.Mark.{Mark}
use Rattle.layout.specs.declared.marks.Marks.{Marks}
use Rattle.digester.specs.batch_journal.Volume.{IsVolume}
use Rattle.digester.specs.area_reader.Format.{IsOpenable}
use Rattle.digester.specs.area_reader.Store.{graph, marks, store_of}
use Rattle.digester.specs.MarkMoves.{mark_of}
use Rattle.world_invariant.specs.call_effects.ClosedGraph.{nobody, settled_graph}
use Rattle.world_invariant.specs.call_effects.Wholes.{state_of}
use Rattle.world_invariant.specs.Logs.{after_clients}
use Rattle.world_invariant.specs.Recovery.{IsRecoverable}
use Rattle.event_lists.specs.Courses.{WorldContent, part_of}

-- a client's mark, by the marks of the shared medium; the first one where there are none
abbrev pub mark_by : Option Marks → ℕ → Mark
mark_by None client = record { generation = 0; done = 0 }
mark_by (Some v) client = mark_of v client

abbrev pub mark_in : WorldContent → ℕ → Mark
mark_in c client = mark_by (marks (store_of (c 0))) client

-- what stands in a client's two regions, by the remainder of their generations
abbrev pub regions_in : WorldContent → ℕ → ℕ → List ℕ
regions_in c client r = c (part_of client r) Fast

-- the records of a client that count
abbrev pub log_in : WorldContent → ℕ → List Record
log_in c client = counted_records (mark_in c client).generation (mark_in c client).done (regions_in c client)

-- the graph that is stored: the shared one after the records of all clients that count
abbrev pub stored_graph : Sizes → WorldContent → Graph
stored_graph g c = after_clients (log_in c) (graph g (store_of (c 0))) MAX_CLIENTS

-- its state, settled: nobody has a file open, and no file is without a name
abbrev pub stored_state : Sizes → WorldContent → State
stored_state g c = state_of (settled_graph (stored_graph g c)) nobody

-- A client's generations are done one after the other: of the mark's some records count, or of the next none does.
abbrev pub AreInTurn : WorldContent → ℕ → Type 0
AreInTurn c client = (drop (mark_in c client).done (records_in (regions_in c client) (mark_in c client).generation) ≢ [])
    ⊎ (records_in (regions_in c client) (next_generation (mark_in c client).generation) ≡ [])

-- A recovery takes the contents: the shared medium opens, regions have their size, and the records that count can be digested.
pub record CanRecover (g : Sizes) (c : WorldContent) : Type 0 where
  pub volume : IsVolume g (c 0)
  pub opens : IsOpenable g (store_of (c 0))
  pub sizes : (client r : ℕ) → is_client client ≡ true → r < 2 → HasSize (c (part_of client r))
  pub turns : (client : ℕ) → is_client client ≡ true → AreInTurn c client
  pub logs : IsRecoverable g.units (graph g (store_of (c 0))) (log_in c)
