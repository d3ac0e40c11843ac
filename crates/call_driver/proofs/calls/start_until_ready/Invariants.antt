use Rattle.std.proofs.Common.{◌≡◌}
use Rattle.posix_calls.specs.declared.call.Call.{Call}
use Rattle.interleavings.specs.event_steps.declared.event.Event.TheVariants as kinds
use Rattle.call_driver.specs.Runs.{Leads}
use Rattle.call_driver.specs.Calls.{Turns}
use Rattle.call_driver.specs.EventOwner.{IsServing}
use Rattle.call_driver.proofs.calls.start_until_ready.Given as goal

-- what was played so far: so many turns
abbrev pub invariant-loop-turn : goal.invariant-loop-turn
invariant-loop-turn g l = record {
  run : Leads g.E.Events.plays (IsServing l.fn.hands_over l.fn.client) l.fn.events l.events;
  turns : (call : Call) → l.fn.event ≡ kinds.Start l.fn.client call → Turns g.E.Events l.fn.hands_over l.fn.client call l.turn l.fn.events l.events;
}
