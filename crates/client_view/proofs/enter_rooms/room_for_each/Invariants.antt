use Rattle.std.proofs.Common.{◌≡◌, length, cond, Some, None}
use Rattle.client_view.specs.KnowledgeTables.{copy_at}
use Rattle.client_view.specs.AfterRecord.{is_made}
use Rattle.client_view.proofs.Rooms.{AreReadyTo}
use Rattle.client_view.proofs.enter_rooms.room_for_each.Given as goal

abbrev pub invariant-loop-effect : goal.invariant-loop-effect
invariant-loop-effect l = record {
  ready : AreReadyTo l.effect-index l.rooms.items l.effects (λ j. cond (is_made l.made j) (Some None) (copy_at l.slots j));
  count : length l.rooms.items ≡ l.effect-index;
}
