-- What the log knows of each of its regions.
use Rattle.std.specs.Prelude.{◌≡◌, ◌≢◌, ◌⊎◌, ◌<◌, ◌^◌, ◌%◌, ◌==◌, ℕ, Bool, true, false, List, [], Option, Some, None, is_some, if◌then◌else◌}
use Rattle.tier_device.specs.declared.media.Media.{Ghosts}
use Rattle.tier_device.specs.declared.media.Tier.{Tier}
use Rattle.tier_device.specs.declared.media.Tier.TheVariants.{Fast}
use Rattle.update_log.specs.RecordCounts.{next_generation, records_under}
use Rattle.update_log.specs.Frames.{end_behind, with_record}
use Rattle.update_log.specs.Stage.{IsAppending}
use Rattle.update_log.specs.View.{RegionView, header_of, records_of}
use Rattle.update_log.specs.Wipe.{CanWipe, IsWiping}
use Rattle.update_log.specs.WipeStops.{generation}
use Rattle.update_log.specs.declared.format.TheConstants.{REGION_SIZE}
use Rattle.update_log.specs.declared.stage.Stage.{Stage}
use Rattle.update_log.specs.declared.stage.Stage.TheVariants as stages

-- whether a record is begun and not appended
abbrev pub is_pending : Stage → Bool
is_pending stages.Resting = false
is_pending stages.Foreign = false
is_pending stages.Begun = true
is_pending stages.Written = true
is_pending stages.Kept = true
is_pending stages.Opened = true
is_pending stages.Failed = true
is_pending stages.Closing = false
is_pending stages.Closed = false
is_pending stages.Naming = false
is_pending stages.WipeFailed = false

-- whatever a stop leaves of a region now, none of its records counts under this generation
abbrev pub CountsNothing : {M : Type 0} → Ghosts M → ℕ → RegionView M → Type 0
CountsNothing device g v = (c : List ℕ) → device.left v.media (device.moment v.media) Fast c → records_under g c ≡ []

-- A region that is wiped to a generation, with nothing in it.
pub record IsWiped {M : Type 0} (device : Ghosts M) (g : ℕ) (v : RegionView M) : Type 0 where
  pub rests : v.stage ≡ stages.Resting
  pub nothing : v.begun ≡ None
  pub empty : records_of device v ≡ []
  pub names : generation (header_of device v) ≡ g

-- A region of this generation, in which records are written. Until a device has failed one may be begun, or is.
pub record IsWritten {M : Type 0} (device : Ghosts M) (failed : Bool) (g : ℕ) (v : RegionView M) : Type 0 where
  pub names : generation (header_of device v) ≡ g
  pub settled : IsWiping v.stage → ⊥
  pub going : failed ≡ false → (v.stage ≡ stages.Resting) ⊎ IsAppending v.stage
  pub pending : is_some v.begun ≡ is_pending v.stage
  -- also behind the begun record a gate stands in the region
  pub within : end_behind (with_record (records_of device v) v.begun) < REGION_SIZE

-- What a header names while its region is wiped to a generation: another one until the first gate is closed, and the generation once that is written.
abbrev pub NamesBy : Stage → ℕ → ℕ → Type 0
NamesBy stages.Resting g name = name ≢ g
NamesBy stages.Foreign g name = name ≢ g
NamesBy stages.Begun g name = ⊥
NamesBy stages.Written g name = ⊥
NamesBy stages.Kept g name = ⊥
NamesBy stages.Opened g name = ⊥
NamesBy stages.Failed g name = ⊥
NamesBy stages.Closing g name = name ≢ g
NamesBy stages.Closed g name = Unit {0}
NamesBy stages.Naming g name = name ≡ g
NamesBy stages.WipeFailed g name = Unit {0}

-- A region that is to be wiped to a generation, or whose wipe to it has begun. Until a device has failed it may begin or go on.
pub record IsStale {M : Type 0} (device : Ghosts M) (failed : Bool) (g : ℕ) (v : RegionView M) : Type 0 where
  pub nothing : v.begun ≡ None
  pub going : failed ≡ false → CanWipe v.stage
  pub names : NamesBy v.stage g (generation (header_of device v))
  pub none : CountsNothing device g v

-- A region that was sealed: at rest, with records, and its header names its generation.
pub record IsSealedRegion {M : Type 0} (device : Ghosts M) (g : ℕ) (v : RegionView M) : Type 0 where
  pub rests : v.stage ≡ stages.Resting
  pub nothing : v.begun ≡ None
  pub names : generation (header_of device v) ≡ g
  pub some : records_of device v ≢ []
  pub within : end_behind (records_of device v) < REGION_SIZE

-- What holds of a client's log: each region that is here is wiped to its generation, or is to be.
pub record IsSound {M : Type 0} (device : Ghosts M) (g : ℕ) (current : RegionView M) (ready : Bool) (other : Option (RegionView M)) (clean failed : Bool) : Type 0 where
  pub small : g < 2 ^ 64
  pub written : ready ≡ true → IsWritten device failed g current
  pub stale : ready ≡ false → IsStale device failed g current
  pub wiped : (r : RegionView M) → other ≡ Some r → clean ≡ true → IsWiped device (next_generation g) r
  pub back : (r : RegionView M) → other ≡ Some r → clean ≡ false → IsStale device failed (next_generation g) r
  pub none : (r : RegionView M) → other ≡ Some r → CountsNothing device (next_generation g) r
  pub away : other ≡ None → clean ≡ false

-- the regions of even and of odd generations: the one of this generation, and the other
abbrev pub in_turn : {A : Type 0} → ℕ → A × A → A × A
in_turn g regions = if g % 2 == 0 then regions else (regions.1, regions.0)

-- The region of a generation is wiped to it, and the other to the next one.
pub record AreWiped {M : Type 0} (device : Ghosts M) (g : ℕ) (regions : RegionView M × RegionView M) : Type 0 where
  pub current : IsWiped device g (in_turn g regions).0
  pub other : IsWiped device (next_generation g) (in_turn g regions).1
