use Rattle.std.proofs.Common.{◌-◌, ◌≤◌, length, take}
use Rattle.script.specs.LineReads.{IsWithinLine}
use Rattle.script.proofs.script.part.line_len.Given as goal

-- no newline was passed
abbrev pub invariant-loop-len : goal.invariant-loop-len
invariant-loop-len l = (l.len ≤ length l.bytes) × IsWithinLine (take l.len l.bytes)

abbrev pub decreases-loop-len : goal.decreases-loop-len
decreases-loop-len l = length l.bytes - l.len
