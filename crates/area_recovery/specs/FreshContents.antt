-- What a format writes on parts, and which it refuses.
use Rattle.std.specs.Prelude.{◌≡◌, ℕ, zero, suc, ◌≤◌, ◌<◌, ◌%◌, List, length, slice_get, Some}
use Rattle.std.specs.List.{AllByRecursion}
use Rattle.recovery_laws.specs.Fresh.{fresh_region, fresh_tiers}
use Rattle.recovery_laws.specs.batch_journal.Volume.{HasSizes}
use Rattle.log_survey.specs.update_log.Moments.{PastStays}
use Rattle.log_survey.specs.update_log.View.{HasSize}
use Rattle.tier_device.specs.declared.media.Media.{Ghosts}
use Rattle.tier_device.specs.declared.media.Tier.{Tier}
use Rattle.tier_device.specs.AfterStop.{AtRest}
use Rattle.event_lists.specs.Courses.{Content, PARTS, WorldContent}
use Rattle.recovery_laws.specs.layout.Places.{Sizes}
use Rattle.area_recovery.specs.declared.error.RecoveryError.{RecoveryError}
use Rattle.area_recovery.specs.declared.error.RecoveryError.TheVariants as errors
use Rattle.area_recovery.specs.Parts.{PartsView}
use Rattle.area_recovery.specs.Recovers.{region_content}

-- what stands on the parts of the empty world: an area in which nothing stands but a root without entries, and regions without records, of generation 0 and of 1 in turn
abbrev pub fresh_contents : Sizes → WorldContent
fresh_contents g zero = fresh_tiers g
fresh_contents g (suc k) = region_content (fresh_region (k % 2))

-- a refusal of a format: for a size, a device fault, or memory
abbrev pub IsFormatError : RecoveryError → Type 0
IsFormatError errors.AreaSize = Unit {0}
IsFormatError errors.RegionSize = Unit {0}
IsFormatError errors.DeviceFault = Unit {0}
IsFormatError errors.Memory = Unit {0}
IsFormatError _ = ⊥

-- a refusal is for a size
abbrev pub IsSizeError : RecoveryError → Type 0
IsSizeError errors.AreaSize = Unit {0}
IsSizeError errors.RegionSize = Unit {0}
IsSizeError _ = ⊥

module _ {M : Type 0} (device : Ghosts M) where
  -- Of one tier of a medium a read gives these bytes, and nothing is pending on it.
  pub record TierHolds (tier : Tier) (bytes : List ℕ) (m : M) : Type 0 where
    pub seen : device.seen m tier ≡ bytes
    pub rests : AtRest (device.seen m) (device.left m (device.moment m)) tier

  -- so it is of each tier
  abbrev pub HoldsContent : Content → M → Type 0
  HoldsContent content m = (t : Tier) → TierHolds t (content t) m

  -- regions of the empty world
  abbrev pub AreFreshRegions : List M → Type 0
  AreFreshRegions media = (k : ℕ) (m : M) → slice_get media k ≡ Some m → HoldsContent (region_content (fresh_region (k % 2))) m

  -- A medium later on: its past stays, its tiers keep their lengths, and its count of failed calls does not fall.
  pub record IsLater (old new : M) : Type 0 where
    pub past : PastStays (device.moment old) (device.moment new) (device.left old) (device.left new)
    pub lengths : (t : Tier) → length (device.seen new t) ≡ length (device.seen old t)
    pub faults : device.faults old ≤ device.faults new

  -- so it is of each part
  abbrev pub AreLater : (ℕ → M) → (ℕ → M) → Type 0
  AreLater old new = (p : ℕ) → p < PARTS → IsLater (old p) (new p)

  -- each medium has the size of a region
  abbrev pub HaveRegionSize : List M → Type 0
  HaveRegionSize media = AllByRecursion (λ m. HasSize (device.seen m)) media

  -- The media of the parts have the sizes of a geometry.
  pub record HaveSizes (g : Sizes) (v : PartsView M) : Type 0 where
    pub shared : HasSizes g (device.seen v.shared)
    pub regions : HaveRegionSize v.regions

  -- what a refusal says of the sizes: the shared medium is looked at first
  abbrev pub SizesAtRefusal : Sizes → PartsView M → RecoveryError → Type 0
  SizesAtRefusal g v errors.AreaSize = HasSizes g (device.seen v.shared) → ⊥
  SizesAtRefusal g v errors.RegionSize = HasSizes g (device.seen v.shared) × (HaveRegionSize v.regions → ⊥)
  SizesAtRefusal g v _ = HaveSizes g v
