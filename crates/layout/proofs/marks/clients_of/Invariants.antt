use Rattle.std.proofs.Common.{◌≡◌, ◌-◌, length, take}
use Rattle.layout.specs.Bytes.{items_at}
use Rattle.layout.specs.Marks.{mark_at}
use Rattle.layout.proofs.Items.{with_front}
use Rattle.layout.proofs.marks.clients_of.Given as goal

abbrev pub invariant-loop-client : goal.invariant-loop-client
invariant-loop-client l = (length l.clients ≡ 8) × (with_front (take l.client l.clients) (items_at mark_at (8 - l.client) l.rest) ≡ items_at mark_at 8 l.bytes)
