use Rattle.std.proofs.Common.{◌≡◌, ◌-◌}
use Rattle.log_record.specs.Grammar.{effects_at}
use Rattle.log_record.proofs.Loops.{behind}
use Rattle.log_record.proofs.record_reads.skip_effects.Given as goal

abbrev pub invariant-loop : goal.invariant-loop
invariant-loop l = behind (effects_at (l.count - l.counter) l.rest) ≡ behind (effects_at l.count l.bytes)
