use Rattle.call_driver.specs.Runs.{Leads}
use Rattle.call_driver.specs.Calls.{GoesOn}
use Rattle.call_driver.specs.EventOwner.{IsOfClient}
use Rattle.call_driver.proofs.calls.finish_append.Given as goal

-- what was played so far: so many steps
abbrev pub invariant-loop-step : goal.invariant-loop-step
invariant-loop-step g l = record {
  run : Leads g.E.Events.plays (IsOfClient l.fn.client) l.fn.events l.events;
  steps : GoesOn g.E.Events.plays l.fn.client l.step l.fn.events l.events;
}
