use Rattle.std.proofs.Common.{◌≡◌}
use Rattle.std.specs.Prelude.{nat_lt}
use Rattle.interleavings.specs.event_steps.declared.event.Event.TheVariants as event
use Rattle.call_driver.specs.Digests.{Times}
use Rattle.call_driver.specs.Runs.{Leads}
use Rattle.call_driver.proofs.digests.wipe_all.Given as goal

-- what was played so far: so many steps
abbrev pub invariant-loop-step : goal.invariant-loop-step
invariant-loop-step g l = record {
  run : Leads g.E.Events.plays (λ e. e ≡ event.WipeStep l.fn.client) l.fn.events l.events;
  times : Times g.E.Events.plays (event.WipeStep l.fn.client) l.step l.fn.events l.events;
  told : l.wiped ≡ nat_lt 0 l.step;
}
