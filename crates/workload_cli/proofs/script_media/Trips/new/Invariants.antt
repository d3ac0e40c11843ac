use Rattle.std.proofs.Common.{◌≡◌, length}
use Rattle.workload_cli.proofs.script_media.Trips.new.Given as goal

-- as many were made as there were turns
abbrev pub invariant-names : goal.invariant-names
invariant-names l = length l.failures.items ≡ l.counter
