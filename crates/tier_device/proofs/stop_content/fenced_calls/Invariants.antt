use Rattle.std.proofs.Common.{◌≤◌, length, drop}
use Rattle.tier_device.specs.StopContent.{NoFenceIn}
use Rattle.tier_device.proofs.stop_content.fenced_calls.Given as goal

-- no fence of the tier stands behind the calls that are left
abbrev pub invariant-calls : goal.invariant-calls
invariant-calls l = record { within : l.fenced ≤ length l.entries; none_later : NoFenceIn l.tier (drop l.fenced l.entries) }

abbrev pub decreases-calls : goal.decreases-calls
decreases-calls l = l.fenced
