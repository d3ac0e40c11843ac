use Rattle.std.proofs.Common.{◌≡◌, ◌≤◌, length}
use Rattle.plain_tree.specs.Plain.{stored_tree}
use Rattle.plain_tree.proofs.nodes.make_room.Given as goal

abbrev pub invariant-loop : goal.invariant-loop
invariant-loop l = (stored_tree l.nodes.items ≡ stored_tree l.fn.nodes.items) × (length l.nodes.items ≡ l.counter) × (length l.fn.nodes.items ≤ length l.nodes.items)
