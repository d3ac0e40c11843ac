use Rattle.std.proofs.Common.{◌≡◌, ◌≤◌, ◌-◌}
use Rattle.handoff.specs.Ends.{ends_below}
use Rattle.handoff.specs.Hands.{hands_from}
use Rattle.handoff.proofs.queue.split_all.Given as goal

abbrev pub invariant-loop-place : goal.invariant-loop-place
invariant-loop-place g l = (l.rest.queue ≡ l.fn.end.queue) × (l.rest.hands ≡ hands_from l.place (17 - l.place)) × (l.ends.items ≡ ends_below l.fn.end.queue l.place) × (l.place ≤ 16)
