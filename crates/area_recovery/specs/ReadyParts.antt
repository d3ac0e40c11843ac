-- An area and regions of which a world may be made.
use Rattle.std.specs.Prelude.{◌≡◌, ℕ, ◌+◌, ◌/◌, ◌%◌, true, false, List, length, slice_get, Some}
use Rattle.tier_device.specs.declared.media.Media.{Ghosts}
use Rattle.log_survey.specs.update_log.View.{HasSize, RegionView}
use Rattle.recovery_laws.specs.batch_journal.View.{JournalView}
use Rattle.recovery_laws.specs.layout.declared.marks.Marks.{Marks}
use Rattle.recovery_laws.specs.area_reader.Store.{disk, graph, marks}
use Rattle.recovery_laws.specs.digester.MarkMoves.{mark_of}
use Rattle.graph_check.specs.call_effects.ClosedGraph.{nobody}
use Rattle.graph_check.specs.call_effects.Wholes.{IsSound}
use Rattle.posix_calls.specs.Operations.{is_client}
use Rattle.area_recovery.specs.Regions.{REGIONS}
use Rattle.area_recovery.specs.Silent.{IsWiped, wiped_name}

module _ {M : Type 0} (device : Ghosts M) where
  -- The area goes on, its graph is sound where nobody has a file open, and each mark stands before a region.
  pub record IsReadyArea (area : JournalView M) : Type 0 where
    pub going : area.failed ≡ false
    pub sound : IsSound (graph area.geometry (disk device area)) nobody
    pub before : (v : Marks) (c : ℕ) → marks (disk device area) ≡ Some v → is_client c ≡ true → (mark_of v c).done ≡ 0

  -- There are sixteen regions, each as long as a region and wiped: of a client to the generation of its mark and to the next.
  pub record AreReadyRegions (area : JournalView M) (regions : List (RegionView M)) : Type 0 where
    pub all : length regions ≡ REGIONS
    pub sizes : (k : ℕ) (r : RegionView M) → slice_get regions k ≡ Some r → HasSize (device.seen r.media)
    pub wiped : (v : Marks) (k : ℕ) (r : RegionView M) → marks (disk device area) ≡ Some v → slice_get regions k ≡ Some r → IsWiped device (wiped_name (mark_of v (k / 2 + 1)).generation (k % 2)) r
