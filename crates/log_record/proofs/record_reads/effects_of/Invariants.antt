use Rattle.std.proofs.Common.{◌≡◌, ◌-◌}
use Rattle.log_record.specs.Grammar.{effects_at}
use Rattle.log_record.proofs.Loops.{with_front}
use Rattle.log_record.proofs.record_reads.effects_of.Given as goal

abbrev pub invariant-loop : goal.invariant-loop
invariant-loop l = with_front l.effects.items (effects_at (l.count - l.counter) l.rest) ≡ effects_at l.count l.bytes
