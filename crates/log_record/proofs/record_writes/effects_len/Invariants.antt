use Rattle.std.proofs.Common.{◌≡◌, ◌≤◌, ◌*◌, length, take}
use Rattle.std.specs.List.{flat_map}
use Rattle.log_record.specs.Grammar.{effect_bytes}
use Rattle.log_record.proofs.record_writes.effects_len.Given as goal

abbrev pub invariant-loop-effect : goal.invariant-loop-effect
invariant-loop-effect l = record {
  is : l.len ≡ length (flat_map effect_bytes (take l.effect-index l.effects));
  short : l.len ≤ 65553 * l.effect-index;
}
