-- Regions that are opened one after the other, and what is read of them.
use Rattle.std.specs.Prelude.{◌≡◌, ◌≢◌, ℕ, ◌≤◌, ◌+◌, ◌-◌, ◌*◌, ◌⊎◌, List, [], ◌∷◌, ◌++◌, get_or, map, slice_get, Option, Some, None}
use Rattle.tier_device.specs.declared.media.Media.{Ghosts}
use Rattle.tier_device.specs.declared.media.Tier.{Tier}
use Rattle.tier_device.specs.declared.media.Tier.TheVariants.{Fast}
use Rattle.tier_device.specs.AfterStop.{AtRest}
use Rattle.tier_device.specs.Media.{Rose}
use Rattle.log_survey.specs.update_log.Frames.{end_behind, records}
use Rattle.log_survey.specs.update_log.Moments.{PastStays}
use Rattle.log_survey.specs.update_log.Stage.{IsIdle}
use Rattle.log_survey.specs.update_log.declared.format.TheConstants.{OPEN}
use Rattle.log_survey.specs.update_log.declared.stage.Stage.TheVariants as stages
use Rattle.log_survey.specs.update_log.View.{HasSize, RegionView}
use Rattle.area_recovery.specs.declared.error.RecoveryError.{RecoveryError}
use Rattle.area_recovery.specs.declared.error.RecoveryError.TheVariants.{DeviceFault, RegionSize, Memory}
use Rattle.area_recovery.specs.Recovers.{Regions}

-- how many regions there are
abbrev pub REGIONS : ℕ
REGIONS = 16

-- Of a medium nothing has changed but the count of failed calls: it is read as before, and a stop leaves what it did.
pub record IsUntouched {M : Type 0} (device : Ghosts M) (old new : M) : Type 0 where
  pub seen : (t : Tier) → device.seen new t ≡ device.seen old t
  pub clock : device.moment new ≡ device.moment old
  pub past : PastStays (device.moment old) (device.moment new) (device.left old) (device.left new)
  pub faults : device.faults old ≤ device.faults new

-- A medium that is given back: nothing has changed, and it is at rest.
pub record IsGivenBack {M : Type 0} (device : Ghosts M) (old new : M) : Type 0 where
  pub untouched : IsUntouched device old new
  pub rests : AtRest (device.seen new) (device.left new (device.moment new)) Fast

-- The region of a medium, in which nothing is begun: of the medium nothing has changed, and it is at rest. A record may be begun unless an open gate stands behind the records.
pub record IsReopened {M : Type 0} (device : Ghosts M) (medium : M) (r : RegionView M) : Type 0 where
  pub back : IsGivenBack device medium r.media
  pub size : HasSize (device.seen medium)
  pub idle : IsIdle r.stage
  pub resting : r.stage ≡ stages.Resting → get_or (device.seen medium Fast) (end_behind (records (device.seen medium Fast))) 0 ≢ OPEN
  pub foreign : r.stage ≡ stages.Foreign → get_or (device.seen medium Fast) (end_behind (records (device.seen medium Fast))) 0 ≡ OPEN
  pub quiet : device.faults r.media ≡ device.faults medium

-- A region that was only read.
pub record IsOnlyRead {M : Type 0} (device : Ghosts M) (old new : RegionView M) : Type 0 where
  pub untouched : IsUntouched device old.media new.media
  pub end : new.end ≡ old.end
  pub stage : new.stage ≡ old.stage
  pub begun : new.begun ≡ old.begun

-- what a read gives of a region; nothing where there is none
abbrev pub read_of : {M : Type 0} → Ghosts M → Option (RegionView M) → List ℕ
read_of device None = []
read_of device (Some v) = device.seen v.media Fast

-- the place of a client's region among all
abbrev pub place_of : ℕ → ℕ → ℕ
place_of client r = 2 * (client - 1) + r

-- what reads give of the regions of each client, which stand after one another
abbrev pub regions_read : {M : Type 0} → Ghosts M → List (RegionView M) → Regions
regions_read device vs client r = read_of device (slice_get vs (place_of client r))

-- a relation holds of some two items of two lists, at the same place
abbrev pub SomeZip : {A B : Type 0} → (A → B → Type 0) → List A → List B → Type 0
SomeZip R (x ∷ xs) (y ∷ ys) = R x y ⊎ SomeZip R xs ys
SomeZip R _ _ = ⊥

-- the count of failed calls rose of some medium
abbrev pub HaveRisen : {M : Type 0} → Ghosts M → List M → List M → Type 0
HaveRisen device old new = SomeZip (λ m n. Rose (device.faults m) (device.faults n)) old new

-- a medium at rest, as a region asks for it
abbrev pub Rests : {M : Type 0} → Ghosts M → M → Type 0
Rests device m = AtRest (device.seen m) (device.left m (device.moment m)) Fast

-- the refusals that opening regions has
abbrev pub CanBeDenied : RecoveryError → Type 0
CanBeDenied error = (error ≡ RegionSize) ⊎ (error ≡ DeviceFault) ⊎ (error ≡ Memory)

-- The last medium is taken away, and its region stands before the regions.
pub record TakesLast {M : Type 0} (device : Ghosts M) (old new : List M) (before after : List (RegionView M)) : Type 0 where
  pub medium : M
  pub region : RegionView M
  pub taken : old ≡ new ++ medium ∷ []
  pub put : after ≡ region ∷ before
  pub reopened : IsReopened device medium region

-- The last medium was looked at and is given back, refused for this cause.
pub record RefusesLast {M : Type 0} (device : Ghosts M) (error : RecoveryError) (old new : List M) : Type 0 where
  pub front : List M
  pub medium : M
  pub back : M
  pub was : old ≡ front ++ medium ∷ []
  pub is : new ≡ front ++ back ∷ []
  pub given_back : IsGivenBack device medium back
  pub size : error ≡ RegionSize → HasSize (device.seen medium) → ⊥
  pub fault : error ≡ DeviceFault → Rose (device.faults medium) (device.faults back)
  pub only : CanBeDenied error

-- the media of regions
abbrev pub media_of : {M : Type 0} → List (RegionView M) → List M
media_of vs = map (λ v. v.media) vs
