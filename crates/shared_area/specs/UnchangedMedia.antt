-- What a call leaves of shared media at each of its moments, and how it stands to a device fault.
use Rattle.std.specs.Prelude.{◌≡◌, ◌≢◌, ◌⊎◌, ◌≤◌, ◌+◌, ℕ, List, true, false, Result, Err, OnOk, IfErr, IsErrOf}
use Rattle.tier_device.specs.declared.media.Media.{Ghosts}
use Rattle.tier_device.specs.declared.media.Tier.{Tier}
use Rattle.tier_device.specs.Media.{Rose}
use Rattle.tier_device.specs.AfterStop.{Left}
use Rattle.area_reader.specs.batch_journal.Course.{Unmoved}
use Rattle.area_reader.specs.batch_journal.View.{JournalView}

-- The past stays. At each moment from the old one to the new one a stop leaves contents that open so.
pub record Stays (Opens : (Tier → List ℕ) → Type 0) (before now : ℕ) (old new : ℕ → Tier → List ℕ → Type 0) : Type 0 where
  pub later : before ≤ now
  pub past : (m : ℕ) (t : Tier) (c : List ℕ) → m ≤ before → new m t c → old m t c
  pub kept : (m : ℕ) (t : Tier) (c : List ℕ) → m ≤ before → old m t c → new m t c
  pub any_moment : (m : ℕ) (content : Tier → List ℕ) → before ≤ m → m ≤ now → Left new m content → Opens content

-- After a refusal that is no device fault nothing has moved. A device fault is answered where a device fails, and from then on: an area that has failed answers nothing else, and
-- is not touched.
pub record AnswersOrStays {M T E : Type 0} (device_fault : E) (device : Ghosts M) (old new : JournalView M) (result : Result T E) : Type 0 where
  pub unmoved : IfErr result (λ e. e ≢ device_fault → Unmoved (device.moment old.media) (device.moment new.media) (device.seen old.media) (device.seen new.media) (device.left old.media) (device.left new.media))
  pub geometry : new.geometry ≡ old.geometry
  pub more_faults : device.faults old.media ≤ device.faults new.media
  pub one_fault : device.faults new.media ≤ device.faults old.media + 1
  pub quiet : OnOk result (device.faults new.media ≡ device.faults old.media)
  pub going : OnOk result ((old.failed ≡ false) × (new.failed ≡ false))
  pub quiet_refused : IfErr result (λ e. e ≢ device_fault → (device.faults new.media ≡ device.faults old.media) × (old.failed ≡ false) × (new.failed ≡ false))
  pub stays_failed : old.failed ≡ true → (result ≡ Err device_fault) × (new ≡ old)
  pub fault : IsErrOf result device_fault → (new.failed ≡ true) × ((old.failed ≡ true) ⊎ Rose (device.faults old.media) (device.faults new.media))
