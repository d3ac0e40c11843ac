use Rattle.std.proofs.Common.{◌≡◌, ◌≤◌, drop, take}
use Rattle.std.specs.Prelude.{option_map}
use Rattle.std.specs.Option.{ForSome}
use Rattle.posix_calls.specs.declared.limits.TheConstants.{UNIT_BYTES}
use Rattle.client_plan.specs.call_effects.Blocks.{block_after}
use Rattle.client_view.proofs.blocks.take_effects.Given as goal

abbrev pub invariant-loop-effect : goal.invariant-loop-effect
invariant-loop-effect l = record {
  laid : block_after (drop l.effect-index l.effects) l.inode l.block (option_map (λ n. take n l.buffer) l.laid) ≡ block_after l.effects l.inode l.block (option_map (λ n. take n l.fn.buffer) l.fn.len);
  within : ForSome l.laid (λ n. n ≤ UNIT_BYTES);
}
