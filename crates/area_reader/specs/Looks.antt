-- What a call that only reads leaves of a journal.
use Rattle.std.specs.Prelude.{◌≡◌, ◌≢◌, ◌⊎◌, ◌≤◌, ◌+◌, true, false, Result, Ok, Err, OnOk, IfErr}
use Rattle.tier_device.specs.declared.media.Media.{Ghosts}
use Rattle.tier_device.specs.Media.{Rose}
use Rattle.batch_journal.specs.View.{JournalView}
use Rattle.batch_journal.specs.Course.{Unmoved}
use Rattle.area_reader.specs.declared.error.AreaError.{AreaError}
use Rattle.area_reader.specs.declared.error.AreaError.TheVariants as errors

-- a call that has answered
abbrev pub call_answer : Result (Unit {0}) AreaError
call_answer = Ok tt

-- Nothing has moved. A device fault is answered where a device fails, and from then on: a journal that has failed answers nothing else, and is not touched.
pub record Looks {M T : Type 0} (device : Ghosts M) (old new : JournalView M) (result : Result T AreaError) : Type 0 where
  pub unmoved : Unmoved (device.moment old.media) (device.moment new.media) (device.seen old.media) (device.seen new.media) (device.left old.media) (device.left new.media)
  pub geometry : new.geometry ≡ old.geometry
  pub more_faults : device.faults old.media ≤ device.faults new.media
  pub one_fault : device.faults new.media ≤ device.faults old.media + 1
  pub quiet : OnOk result (device.faults new.media ≡ device.faults old.media)
  pub going : OnOk result ((old.failed ≡ false) × (new.failed ≡ false))
  pub quiet_refused : IfErr result (λ e. e ≢ errors.DeviceFault → (device.faults new.media ≡ device.faults old.media) × (old.failed ≡ false) × (new.failed ≡ false))
  pub stays_failed : old.failed ≡ true → (result ≡ Err errors.DeviceFault) × (new ≡ old)
  pub fault : IfErr result (λ e. e ≡ errors.DeviceFault → (new.failed ≡ true) × ((old.failed ≡ true) ⊎ Rose (device.faults old.media) (device.faults new.media)))
