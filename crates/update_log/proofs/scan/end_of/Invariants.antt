use Rattle.std.proofs.Common.{◌-◌, ◌<◌, length, take}
use Rattle.update_log.specs.Stage.{IsFront}
use Rattle.update_log.proofs.scan.end_of.Given as goal

abbrev pub invariant-records : goal.invariant-records
invariant-records l = record { within : l.end < length l.content; front : IsFront (take l.end l.content) }

abbrev pub decreases-records : goal.decreases-records
decreases-records l = length l.content - l.end
