-- The file tree that a running system stands for.
use Rattle.std.specs.Prelude.{ℕ, ◌==◌, List, [], ◌++◌, drop, Option, Some, None, if◌then◌else◌}
use Rattle.tier_device.specs.declared.media.Media.{Ghosts}
use Rattle.posix_calls.specs.Tree.{Descriptors, State}
use Rattle.posix_calls.specs.Operations.{is_client}
use Rattle.posix_calls.specs.declared.descriptor.Descriptor.{Descriptor}
use Rattle.posix_calls.specs.declared.limits.TheConstants.{MAX_CLIENTS}
use Rattle.event_steps.specs.file_graph.Graph.{Graph}
use Rattle.event_steps.specs.log_record.declared.format.Record.{Record}
use Rattle.event_steps.specs.layout.declared.marks.Mark.{Mark}
use Rattle.event_steps.specs.area_reader.Store.{disk, graph, marks}
use Rattle.event_steps.specs.call_effects.Wholes.{state_of}
use Rattle.event_steps.specs.update_log.View.{records_of}
use Rattle.event_steps.specs.client_log.View.{current_records}
use Rattle.event_steps.specs.world_invariant.Logs.{after_clients}
use Rattle.event_steps.specs.libfs.ClientHoldings.{known_to}
use Rattle.event_steps.specs.libfs.SealedRegion.{SealedRegionView}
use Rattle.event_steps.specs.View.{SeatView, SystemView, seat_of}
use Rattle.recovery_laws.specs.Contents.{mark_by}
use Rattle.system_laws.specs.WorldView.{WorldView}

-- what a client has open at a number
abbrev pub opened_by : {M : Type 0} → Option (SeatView M) → ℕ → Option Descriptor
opened_by None n = None
opened_by (Some s) n = (known_to s.client).own n

abbrev pub opened_in : {M : Type 0} → SystemView M → Descriptors
opened_in w c n = if is_client c then opened_by (seat_of w c) n else None

module _ {M : Type 0} (device : Ghosts M) where
  -- the records of the region that a client handed over, as it holds them
  abbrev pub away_records : Option (SealedRegionView M) → List Record
  away_records None = []
  away_records (Some a) = records_of device a.region

  -- a client's records behind a mark, which is in the generation of the region that it writes, or in the one before: without one that is begun
  abbrev pub records_behind : Mark → SeatView M → List Record
  records_behind mark s = if mark.generation == s.client.log.generation then drop mark.done (current_records device s.client.log) else drop mark.done (away_records s.away) ++ current_records device s.client.log

  abbrev pub log_by : Mark → Option (SeatView M) → List Record
  log_by mark None = []
  log_by mark (Some s) = records_behind mark s

  -- a client's records that count, behind its mark on the shared medium
  abbrev pub log_of : SystemView M → ℕ → List Record
  log_of w c = log_by (mark_by (marks (disk device w.kernel.area)) c) (seat_of w c)

  -- the shared graph after them all
  abbrev pub whole_graph : SystemView M → Graph
  whole_graph w = after_clients (log_of w) (graph w.kernel.area.geometry (disk device w.kernel.area)) MAX_CLIENTS

  -- The file tree that the system stands for, with what its clients have open: by what its parts hold and the descriptors, by no copy of a node or a record in memory.
  abbrev pub world_tree : WorldView M → State
  world_tree w = state_of (whole_graph w.system) (opened_in w.system)
