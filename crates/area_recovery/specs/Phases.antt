-- What a phase of a recovery leaves of the shared medium at each of its moments, and how it stands to a device fault.
use Rattle.std.specs.Prelude.{◌≡◌, ◌≢◌, ◌≤◌, ◌+◌, ◌⊎◌, ℕ, List, true, false, Result, OnOk, IfErr}
use Rattle.tier_device.specs.declared.media.Media.{Ghosts}
use Rattle.tier_device.specs.declared.media.Tier.{Tier}
use Rattle.tier_device.specs.Media.{Rose}
use Rattle.recovery_laws.specs.batch_journal.View.{JournalView}
use Rattle.recovery_laws.specs.layout.Places.{Sizes}
use Rattle.posix_calls.specs.Tree.{State}
use Rattle.area_recovery.specs.declared.error.RecoveryError.{RecoveryError}
use Rattle.area_recovery.specs.declared.error.RecoveryError.TheVariants.{DeviceFault}
use Rattle.area_recovery.specs.Recovers.{Regions, Recovers, RecoversThrough}
use Rattle.area_recovery.specs.Regions.{HaveRisen, media_of}
use Rattle.log_survey.specs.update_log.View.{RegionView}

-- whatever stands in the regions
abbrev pub Whatever : Regions → Type 0
Whatever regions = Unit {0}

-- The past stays. With regions that are so, what a stop leaves at any moment is recovered to the state to which what was read is.
pub record StaysRecovered {M : Type 0} (device : Ghosts M) (AreSo : Regions → Type 0) (old new : M) : Type 0 where
  pub later : device.moment old ≤ device.moment new
  pub past : (m : ℕ) (t : Tier) (c : List ℕ) → m ≤ device.moment old → device.left new m t c → device.left old m t c
  pub kept : (m : ℕ) (t : Tier) (c : List ℕ) → m ≤ device.moment old → device.left old m t c → device.left new m t c
  pub any_moment : (g : Sizes) (regions : Regions) (state : State) → AreSo regions → Recovers g regions state (device.seen old) → RecoversThrough g regions state (device.moment old) (device.moment new) (device.left new)

-- A device fault is answered where a device fails, and then the area has failed; after any other answer it goes on.
pub record AnswersFaults {M T : Type 0} (device : Ghosts M) (old new : JournalView M) (result : Result T RecoveryError) : Type 0 where
  pub geometry : new.geometry ≡ old.geometry
  pub more_faults : device.faults old.media ≤ device.faults new.media
  pub one_fault : device.faults new.media ≤ device.faults old.media + 1
  pub quiet : OnOk result ((device.faults new.media ≡ device.faults old.media) × (new.failed ≡ false))
  pub quiet_refused : IfErr result (λ e. e ≢ DeviceFault → (device.faults new.media ≡ device.faults old.media) × (new.failed ≡ false))
  pub fault : IfErr result (λ e. e ≡ DeviceFault → (new.failed ≡ true) × Rose (device.faults old.media) (device.faults new.media))

-- So it is of an area and of regions that are only read: a device fault is answered where one of their devices fails, and the area goes on unless it was its own.
pub record AnswersEither {M T : Type 0} (device : Ghosts M) (old new : JournalView M) (before after : List (RegionView M)) (result : Result T RecoveryError) : Type 0 where
  pub geometry : new.geometry ≡ old.geometry
  pub more_faults : device.faults old.media ≤ device.faults new.media
  pub quiet : OnOk result (new.failed ≡ false)
  pub quiet_refused : IfErr result (λ e. e ≢ DeviceFault → new.failed ≡ false)
  pub fault : IfErr result (λ e. e ≡ DeviceFault → Rose (device.faults old.media) (device.faults new.media) ⊎ HaveRisen device (media_of before) (media_of after))
