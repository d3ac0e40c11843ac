use Rattle.std.proofs.Common.{◌≡◌, true, drop}
use Rattle.std.specs.Ordering.{nat_cmp}
use Rattle.std.specs.BTreeMap.{get}
use Rattle.call_effects.specs.KnownCopies.{known_after}
use Rattle.record_validation.specs.Memory.{want_room}
use Rattle.record_validation.proofs.effect_steps.take_effects.Given as goal

abbrev pub invariant-loop-effect : goal.invariant-loop-effect
invariant-loop-effect l = record {
  known : known_after (drop l.effect-index l.effects) (get nat_cmp l.known) ≡ known_after l.effects (get nat_cmp l.fn.known);
  room : want_room (drop l.effect-index l.effects) (get nat_cmp l.known) ≡ true → want_room l.effects (get nat_cmp l.fn.known) ≡ true;
}
