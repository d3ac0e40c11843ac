-- What a stop between two events leaves of the regions of one client.
use Rattle.std.specs.Prelude.{◌≡◌, ℕ, List, None, IfSome, is_some}
use Rattle.tier_device.specs.declared.media.Media.{Ghosts}
use Rattle.tier_device.specs.declared.media.Tier.TheVariants.{Fast}
use Rattle.libfs.specs.update_log.Frames.{records}
use Rattle.libfs.specs.update_log.RecordCounts.{next_generation}
use Rattle.libfs.specs.update_log.Stage.{IsUnopened}
use Rattle.libfs.specs.update_log.View.{records_of}
use Rattle.libfs.specs.update_log.WipeStops.{generation}
use Rattle.libfs.specs.client_log.Counts.{AreLeft, CountOf}
use Rattle.libfs.specs.client_log.Regions.{CountsNothing}
use Rattle.libfs.specs.client_log.View.{current_records}
use Rattle.libfs.specs.SealedRegion.{SealedRegionView}
use Rattle.event_steps.specs.Sound.{IsSeated}
use Rattle.event_steps.specs.View.{SeatView}

-- Of a region that is away a stop leaves what a read gives: its records, under its generation.
pub record LeavesSealed {M : Type 0} (device : Ghosts M) (a : SealedRegionView M) : Type 0 where
  pub rests : (c : List ℕ) → device.left a.region.media (device.moment a.region.media) Fast c → c ≡ device.seen a.region.media Fast
  pub records_are : (c : List ℕ) → device.left a.region.media (device.moment a.region.media) Fast c → records c ≡ records_of device a.region
  pub names : (c : List ℕ) → device.left a.region.media (device.moment a.region.media) Fast c → generation c ≡ a.generation

-- Of a client's two regions a stop leaves what counts for it.
pub record SeatLeaves {M : Type 0} (device : Ghosts M) (s : SeatView M) : Type 0 where
  pub seated : IsSeated device s.client s.away
  pub away : IfSome s.away (LeavesSealed device)
  -- in a region that is here and not written nothing counts under the next generation
  pub beside : IfSome s.client.log.other (CountsNothing device (next_generation s.client.log.generation))
  -- of those that are here the client's records count, with the begun one or without
  pub counts : (regions : ℕ → List ℕ) → AreLeft device s.client.log s.client.log regions → CountOf s.client.log.generation (is_some s.client.log.other) (current_records device s.client.log) s.client.log.current.begun regions
  -- until the call that opens its gate, the begun one does not
  pub unopened : IsUnopened s.client.log.current.stage → (regions : ℕ → List ℕ) → AreLeft device s.client.log s.client.log regions → CountOf s.client.log.generation (is_some s.client.log.other) (current_records device s.client.log) None regions
