use Rattle.std.proofs.Common.{◌≡◌, ◌-◌, ◌<◌, ◌++◌, length, drop}
use Rattle.update_log.specs.Frames.{payloads_from, spelled_records}
use Rattle.update_log.proofs.scan.records_in.Given as goal

-- the records so far and those behind are all
abbrev pub invariant-records : goal.invariant-records
invariant-records l = record { within : l.end < length l.content; told : l.found.items ++ spelled_records (payloads_from 0 (drop l.end l.content)) ≡ spelled_records (payloads_from 0 l.content) }

abbrev pub decreases-records : goal.decreases-records
decreases-records l = length l.content - l.end
