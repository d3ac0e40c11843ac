-- What one call makes of a region.
use Rattle.std.specs.Prelude.{◌≡◌, ◌≤◌, ◌+◌, ℕ, List, [], get_or, None, Result, IfOk, IfErr, OnOk, OnErr}
use Rattle.tier_device.specs.declared.media.Media.{Ghosts}
use Rattle.tier_device.specs.declared.media.Tier.{Tier}
use Rattle.tier_device.specs.declared.media.Tier.TheVariants.{Fast}
use Rattle.tier_device.specs.Media.{Keeps, Puts, Rose}
use Rattle.tier_device.specs.StopsSince.{LeftSince}
use Rattle.update_log.specs.RecordCounts.{records_under}
use Rattle.update_log.specs.Moments.{PastStays}
use Rattle.update_log.specs.View.{RegionView, records_of}
use Rattle.update_log.specs.Wipe.{wipe_next, wipe_progress, seen_wiped}
use Rattle.update_log.specs.declared.format.TheConstants.{HEADER}
use Rattle.update_log.specs.declared.stage.Stage.TheVariants as stages
use Rattle.update_log.specs.declared.stage.WipeProgress.{WipeProgress}
use Rattle.client_log.specs.declared.error.LogError.{LogError}
use Rattle.client_log.specs.declared.error.LogError.TheVariants.{DeviceFault}
use Rattle.client_log.specs.Regions.{IsWiped}

-- A region that was only read, if anything.
pub record IsOnlyRead {M : Type 0} (device : Ghosts M) (old new : RegionView M) : Type 0 where
  pub same_end : new.end ≡ old.end
  pub same_stage : new.stage ≡ old.stage
  pub same_begun : new.begun ≡ old.begun
  pub same_seen : (t : Tier) → device.seen new.media t ≡ device.seen old.media t
  pub clock : device.moment new.media ≡ device.moment old.media
  pub past : Keeps (device.moment old.media) (device.moment new.media) (device.left old.media) (device.left new.media)
  pub faults_rise : device.faults old.media ≤ device.faults new.media
  pub one_fault : device.faults new.media ≤ device.faults old.media + 1

-- A region that was moved by one write or fence, which is counted where it succeeded. It fails only where the device does.
pub record IsMovedOnce {M T : Type 0} (device : Ghosts M) (old new : RegionView M) (result : Result T LogError) : Type 0 where
  pub one_call : OnOk result (device.moment new.media ≡ device.moment old.media + 1)
  pub at_most : device.moment new.media ≤ device.moment old.media + 1
  pub past : Keeps (device.moment old.media) (device.moment new.media) (device.left old.media) (device.left new.media)
  pub fault : OnErr result (Rose (device.faults old.media) (device.faults new.media))
  pub sound : OnOk result (device.faults new.media ≡ device.faults old.media)
  pub faults_rise : device.faults old.media ≤ device.faults new.media
  pub one_fault : device.faults new.media ≤ device.faults old.media + 1

-- A region that was moved by `calls` writes and fences, one after the other, which are counted where all of them succeeded. Where the device fails one, no further one is made.
pub record IsMoved {M T : Type 0} (device : Ghosts M) (calls : ℕ) (old new : RegionView M) (result : Result T LogError) : Type 0 where
  pub all_calls : OnOk result (device.moment new.media ≡ device.moment old.media + calls)
  pub at_most : device.moment new.media ≤ device.moment old.media + calls
  pub past : PastStays (device.moment old.media) (device.moment new.media) (device.left old.media) (device.left new.media)
  pub fault : OnErr result (Rose (device.faults old.media) (device.faults new.media))
  pub sound : OnOk result (device.faults new.media ≡ device.faults old.media)
  pub faults_rise : device.faults old.media ≤ device.faults new.media
  pub one_fault : device.faults new.media ≤ device.faults old.media + 1

-- One device call of the wipe of a region to a generation. At no moment of it a record of the region counts under that; the last one leaves it wiped.
pub record IsWipeCall {M : Type 0} (device : Ghosts M) (g : ℕ) (old new : RegionView M) (result : Result WipeProgress LogError) : Type 0 where
  pub any_moment : (c : List ℕ) → LeftSince (device.left new.media) (device.moment new.media) (device.moment old.media) Fast c → records_under g c ≡ []
  pub stage : OnOk result (new.stage ≡ wipe_next old.stage (get_or (device.seen old.media Fast) HEADER 0))
  pub shown : OnOk result (Puts Fast (seen_wiped new.stage g (device.seen old.media Fast)) (device.seen old.media) (device.seen new.media))
  pub progress : IfOk result (λ p. p ≡ wipe_progress new.stage)
  pub none : records_of device new ≡ []
  pub nothing : new.begun ≡ None
  pub only : IfErr result (λ e. e ≡ DeviceFault)
  pub failed : OnErr result (new.stage ≡ stages.WipeFailed)
  pub wiped : OnOk result (new.stage ≡ stages.Resting → IsWiped device g new)
  pub moved : IsMovedOnce device old new result
