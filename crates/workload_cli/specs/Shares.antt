-- What a medium of a script's world counts by.
use Rattle.std.specs.Prelude.{◌≡◌, true, is_some, Option}
use Rattle.tier_device.specs.Fault.{fault_count}
use Rattle.tier_device.specs.declared.fault.FaultMedia.{FaultMedia}
use Rattle.tier_device.specs.declared.stop.StopMedia.{StopMedia}
use Rattle.tier_device.specs.declared.trip.Trip.{Trip}
use Rattle.workload_cli.specs.declared.script_media.Shares.{Shares}

-- what its failures are counted by
abbrev pub failure_share : Shares → Option Trip
failure_share shares = shares.failure

-- it fails by a count that it shares
abbrev pub SharesFailure : FaultMedia StopMedia → Type 0
SharesFailure medium = is_some (fault_count medium).trip ≡ true
