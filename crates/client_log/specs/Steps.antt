-- What the calls of a client's log make of it.
use Rattle.std.specs.Prelude.{◌≡◌, ◌≢◌, ◌≤◌, ◌+◌, ◌-◌, ◌&&◌, nat_le, if◌then◌else◌, ℕ, Bool, true, false, List, [], length, Option, Some, None, is_some, Result, Ok, Err, is_err}
use Rattle.tier_device.specs.declared.media.Media.{Ghosts}
use Rattle.tier_device.specs.declared.media.Tier.{Tier}
use Rattle.update_log.specs.log_record.declared.format.Record.{Record}
use Rattle.update_log.specs.log_record.Grammar.{record_bytes}
use Rattle.update_log.specs.RecordCounts.{next_generation}
use Rattle.update_log.specs.Frames.{end_behind}
use Rattle.update_log.specs.View.{RegionView, records_of}
use Rattle.update_log.specs.declared.format.TheConstants.{REGION_SIZE}
use Rattle.update_log.specs.declared.stage.WipeProgress.{WipeProgress}
use Rattle.update_log.specs.declared.stage.WipeProgress.TheVariants.{Going, Wiped}
use Rattle.client_log.specs.declared.error.LogError.{LogError}
use Rattle.client_log.specs.Calls.{IsOnlyRead, IsWipeCall}
use Rattle.client_log.specs.Regions.{in_turn}
use Rattle.client_log.specs.View.{LogView, current_records}

-- The log of the regions of even and of odd generations, which were read at most.
pub record IsOpened {M : Type 0} (device : Ghosts M) (g : ℕ) (regions : RegionView M × RegionView M) (v : LogView M) : Type 0 where
  pub generation_is : v.generation ≡ g
  pub is_ready : v.ready ≡ true
  pub is_clean : v.clean ≡ true
  pub unfailed : v.failed ≡ false
  pub beside : RegionView M
  pub other_is : v.other ≡ Some beside
  pub current_read : IsOnlyRead device (in_turn g regions).0 v.current
  pub other_read : IsOnlyRead device (in_turn g regions).1 beside
  pub quiet : device.faults v.current.media ≡ device.faults (in_turn g regions).0.media
  pub other_quiet : device.faults beside.media ≡ device.faults (in_turn g regions).1.media

-- The current region is wiped to its generation, and a record and a gate behind it fit into what is left of it.
pub record HasRoom {M : Type 0} (device : Ghosts M) (v : LogView M) (r : Record) : Type 0 where
  pub is_ready : v.ready ≡ true
  pub fits : end_behind (records_of device v.current) + 5 + length (record_bytes r) + 1 ≤ REGION_SIZE

-- how many bytes the next record may have at most, with its gate, its length and the gate behind it; none where the current region is not wiped to its generation
abbrev pub most_of : {M : Type 0} → Ghosts M → LogView M → Option ℕ
most_of device v = if v.ready && nat_le (end_behind (records_of device v.current) + 6) REGION_SIZE then Some (REGION_SIZE - (end_behind (records_of device v.current) + 6)) else None

-- There is a record, none is begun, the other region is here, and no device has failed.
pub record CanBeSealed {M : Type 0} (device : Ghosts M) (v : LogView M) : Type 0 where
  pub some : current_records device v ≢ []
  pub idle : v.current.begun ≡ None
  pub here : is_some v.other ≡ true
  pub sound : v.failed ≡ false

-- the log that goes on in the other region
abbrev pub sealed_view : {M : Type 0} → LogView M → RegionView M → LogView M
sealed_view v other = record { generation = next_generation v.generation; current = other; ready = v.clean; other = None; clean = false; failed = v.failed }

-- the answer to a device call of a wipe
abbrev pub wipe_answer : Result WipeProgress LogError → Result (Option WipeProgress) LogError
wipe_answer (Ok p) = Ok (Some p)
wipe_answer (Err e) = Err e

-- whether that ended the wipe
abbrev pub is_last : Result WipeProgress LogError → Bool
is_last (Ok Going) = false
is_last (Ok Wiped) = true
is_last (Err e) = false

-- A device call of the wipe of the current region, to its generation.
pub record WipesCurrent {M : Type 0} (device : Ghosts M) (old new : LogView M) (result : Result (Option WipeProgress) LogError) : Type 0 where
  pub answer : Result WipeProgress LogError
  pub is_told : result ≡ wipe_answer answer
  pub call : IsWipeCall device old.generation old.current new.current answer
  pub rest : new ≡ record old { current = new.current; ready = is_last answer; failed = is_err answer }

-- And of the other one, to the next generation.
pub record WipesOther {M : Type 0} (device : Ghosts M) (was : RegionView M) (old new : LogView M) (result : Result (Option WipeProgress) LogError) : Type 0 where
  pub answer : Result WipeProgress LogError
  pub is_told : result ≡ wipe_answer answer
  pub beside : RegionView M
  pub call : IsWipeCall device (next_generation old.generation) was beside answer
  pub rest : new ≡ record old { other = Some beside; clean = is_last answer; failed = is_err answer }
