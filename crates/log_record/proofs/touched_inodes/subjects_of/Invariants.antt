use Rattle.std.proofs.Common.{◌≡◌, ◌≤◌, ◌-◌, ◌*◌, length}
use Rattle.log_record.specs.Grammar.{effects_at}
use Rattle.log_record.specs.Touches.{found_in_effects}
use Rattle.log_record.proofs.Touched.{with_front}
use Rattle.log_record.proofs.touched_inodes.subjects_of.Given as goal

-- what is found so far and what is still read are all, at most two for each effect
abbrev pub invariant-loop : goal.invariant-loop
invariant-loop l = record { told : with_front l.found (found_in_effects (effects_at (l.count - l.counter) l.rest)) ≡ found_in_effects (effects_at l.count l.bytes); counted : length l.found ≤ 2 * l.counter }
