use Rattle.std.proofs.Common.{◌≡◌, ◌≤◌, ◌+◌, ◌++◌, length, take, vec_len, vec_capacity}
use Rattle.std.specs.List.{flat_map}
use Rattle.log_record.specs.Grammar.{effect_bytes}
use Rattle.log_record.proofs.record_writes.push_effects.Given as goal

abbrev pub invariant-loop-effect : goal.invariant-loop-effect
invariant-loop-effect l = record {
  written : l.out.items ≡ l.fn.out.items ++ flat_map effect_bytes (take l.effect-index l.effects);
  len : vec_len l.out ≡ vec_len l.fn.out + length (flat_map effect_bytes (take l.effect-index l.effects));
  capacity : vec_capacity l.fn.out ≤ vec_capacity l.out;
}
