-- At which writes and fences the media of a script's world stop and fail.
use Rattle.std.specs.Prelude.{◌≡◌, ◌+◌, ◌/◌, ℕ, List, map, max, slice_get, slice_set, Some}
use Rattle.world_files.specs.area_recovery.Parts.{PartsView}
use Rattle.workload_cli.specs.declared.script_media.ArmedTrip.{ArmedTrip}
use Rattle.workload_cli.specs.declared.script_media.Trips.{Trips}

-- the call that was armed last
abbrev pub call_of : ArmedTrip → ℕ
call_of armed = armed.call

-- the write or fence that all media stop within, of those from its arming on; 0 where none was armed
abbrev pub stop_call : Trips → ℕ
stop_call trips = call_of trips.stop

-- the writes or fences that fail on the media of a name, name after name
abbrev pub failure_calls : Trips → List ℕ
failure_calls trips = map call_of trips.failures.items

-- A stop is armed, at the next call at the earliest; what fails stays.
pub record ArmsStop (call : ℕ) (old new : Trips) : Type 0 where
  pub stop : stop_call new ≡ max call 1
  pub failures : failure_calls new ≡ failure_calls old

-- A failure is armed on the media of a name; those of others stay, and the stop.
pub record ArmsFailure (name call : ℕ) (old new : Trips) : Type 0 where
  pub failures : failure_calls new ≡ slice_set (failure_calls old) name (max call 1)
  pub stop : stop_call new ≡ stop_call old

module _ {M : Type 0} (counts : ℕ → M → Type 0) where
  -- media of regions count each by its client's number
  abbrev pub RegionsCount : List M → Type 0
  RegionsCount regions = (k : ℕ) (m : M) → slice_get regions k ≡ Some m → counts (k / 2 + 1) m

  -- and so do parts, the shared medium by 0
  abbrev pub PartsCount : PartsView M → Type 0
  PartsCount v = counts 0 v.shared × RegionsCount v.regions
