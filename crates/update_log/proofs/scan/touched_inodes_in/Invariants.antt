use Rattle.std.proofs.Common.{◌≡◌, ◌-◌, ◌<◌, ◌++◌, length, drop, map}
use Rattle.log_record.specs.Touches.{inodes_of}
use Rattle.update_log.specs.Frames.{payloads_from, records, spelled_records}
use Rattle.update_log.proofs.scan.touched_inodes_in.Given as goal

-- what is found so far and what the records behind touch are all
abbrev pub invariant-records : goal.invariant-records
invariant-records l = record { within : l.end < length l.content; told : l.found.items ++ map inodes_of (spelled_records (payloads_from 0 (drop l.end l.content))) ≡ map inodes_of (records l.content) }

abbrev pub decreases-records : goal.decreases-records
decreases-records l = length l.content - l.end
