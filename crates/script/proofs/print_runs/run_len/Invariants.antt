use Rattle.std.proofs.Common.{◌≡◌, ◌==◌, ◌≤◌, ◌-◌, ◌+◌, length, drop}
use Rattle.std.specs.List.{prefix_len}
use Rattle.script.proofs.print_runs.run_len.Given as goal

-- so many in front are this byte, and those behind them are still to be counted
abbrev pub invariant-loop-count : goal.invariant-loop-count
invariant-loop-count l = record {
  within : l.count ≤ length l.bytes;
  counted : prefix_len (λ b. b == l.byte) l.bytes ≡ l.count + prefix_len (λ b. b == l.byte) (drop l.count l.bytes);
}

abbrev pub decreases-loop-count : goal.decreases-loop-count
decreases-loop-count l = length l.bytes - l.count
