-- What counts is brought into the area.
use Rattle.std.specs.Prelude.{◌≡◌, ◌≢◌, ◌⊎◌, ℕ, ◌≤◌, ◌/◌, false, List, length, slice_get, slice_index, Some}
use Rattle.std.specs.List.{AllZip}
use Rattle.tier_device.specs.declared.media.Media.{Ghosts}
use Rattle.tier_device.specs.Media.{Rose}
use Rattle.log_survey.specs.update_log.Stage.{IsIdle}
use Rattle.log_survey.specs.update_log.View.{HasSize, RegionView}
use Rattle.recovery_laws.specs.batch_journal.View.{JournalView}
use Rattle.recovery_laws.specs.layout.declared.marks.Marks.{Marks}
use Rattle.recovery_laws.specs.area_reader.Store.{disk, graph, marks}
use Rattle.graph_check.specs.call_effects.ClosedGraph.{nobody, settled_graph}
use Rattle.graph_check.specs.call_effects.Wholes.{IsSound, state_of}
use Rattle.recovery_laws.specs.layout.Places.{Sizes}
use Rattle.log_survey.specs.world_invariant.Logs.{LogsAreApart, after_clients}
use Rattle.posix_calls.specs.Tree.{State}
use Rattle.posix_calls.specs.declared.limits.TheConstants.{MAX_CLIENTS}
use Rattle.area_recovery.specs.declared.error.RecoveryError.{RecoveryError}
use Rattle.area_recovery.specs.declared.error.RecoveryError.TheVariants.{DeviceFault}
use Rattle.area_recovery.specs.FaultOrMemory.{IsFaultOrMemory}
use Rattle.area_recovery.specs.DigestedLogs.{CanDigestAll}
use Rattle.area_recovery.specs.FoundLogs.{log_by}
use Rattle.area_recovery.specs.Phases.{StaysRecovered}
use Rattle.area_recovery.specs.Recovers.{AreThese, Recovers, Regions}
use Rattle.area_recovery.specs.Refusals.{IsStoredCause}
use Rattle.area_recovery.specs.Regions.{HaveRisen, IsOnlyRead, REGIONS, Rests, media_of, regions_read}
use Rattle.area_recovery.specs.Silent.{AreMarked, AreSilent, MayBeWiped}

module _ {M : Type 0} (device : Ghosts M) where
  -- Sixteen regions, in which nothing is begun, at rest and of their size.
  pub record AreOpenRegions (regions : List (RegionView M)) : Type 0 where
    pub all : length regions ≡ REGIONS
    pub idle : (k : ℕ) (v : RegionView M) → slice_get regions k ≡ Some v → IsIdle v.stage × Rests device v.media
    pub sizes : (k : ℕ) (v : RegionView M) → slice_get regions k ≡ Some v → HasSize (device.seen v.media)

  module _ (old new : JournalView M) (before after : List (RegionView M)) where
    -- The area may have moved, and keeps what is stored with these regions, which were only read.
    pub record KeepsStored : Type 0 where
      pub any_moment : StaysRecovered device (AreThese (regions_read device before)) old.media new.media
      pub same : AllZip (IsOnlyRead device) before after
      pub geometry : new.geometry ≡ old.geometry
      pub faults : device.faults old.media ≤ device.faults new.media

    -- All that counts is in the area: its graph is sound and stands for what was stored, settled. No record counts any more, and the regions may be wiped to these generations.
    pub record SettlesArea (generations : List ℕ) : Type 0 where
      pub keeps : KeepsStored
      pub going : new.failed ≡ false
      pub sound : IsSound (graph new.geometry (disk device new)) nobody
      pub apart : (v : Marks) → marks (disk device old) ≡ Some v → LogsAreApart (log_by v (regions_read device before))
      pub good : (v : Marks) → marks (disk device old) ≡ Some v → CanDigestAll old.geometry.units (graph old.geometry (disk device old)) (log_by v (regions_read device before))
      pub stored_sound : (v : Marks) → marks (disk device old) ≡ Some v → IsSound (after_clients (log_by v (regions_read device before)) (graph old.geometry (disk device old)) MAX_CLIENTS) nobody
      pub state : (v : Marks) → marks (disk device old) ≡ Some v
          → state_of (graph new.geometry (disk device new)) nobody ≡ state_of (settled_graph (after_clients (log_by v (regions_read device before)) (graph old.geometry (disk device old)) MAX_CLIENTS)) nobody
      pub eight : length generations ≡ MAX_CLIENTS
      pub marked : AreMarked generations (device.seen new.media)
      pub silent : AreSilent generations (regions_read device before)
      pub wipe : (k : ℕ) (v : RegionView M) → slice_get after k ≡ Some v → MayBeWiped device (slice_index generations (k / 2)) v

    -- It is refused for this cause: never for what is recovered but for a device fault or memory, and else for what is stored.
    pub record RefusesArea (e : RecoveryError) : Type 0 where
      pub keeps : KeepsStored
      pub never : (g : Sizes) (now : Regions) (state : State) → AreThese (regions_read device before) now → Recovers g now state (device.seen old.media) → IsFaultOrMemory e
      pub fault : e ≡ DeviceFault → Rose (device.faults old.media) (device.faults new.media) ⊎ HaveRisen device (media_of before) (media_of after)
      pub going : e ≢ DeviceFault → new.failed ≡ false
      pub cause : (v : Marks) → marks (disk device old) ≡ Some v → IsStoredCause old.geometry (disk device old) (log_by v (regions_read device before)) e
