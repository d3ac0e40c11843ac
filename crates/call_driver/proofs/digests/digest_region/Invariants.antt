use Rattle.interleavings.specs.event_steps.declared.event.Event.TheVariants as event
use Rattle.call_driver.specs.Digests.{Times}
use Rattle.call_driver.specs.Runs.{Leads}
use Rattle.call_driver.specs.EventOwner.{IsDigesting}
use Rattle.call_driver.proofs.digests.digest_region.Given as goal

-- what was played so far: so many chunks
abbrev pub invariant-loop-chunk : goal.invariant-loop-chunk
invariant-loop-chunk g l = record {
  run : Leads g.E.Events.plays (IsDigesting l.fn.client) l.fn.events l.events;
  times : Times g.E.Events.plays (event.Digest l.fn.client) l.chunk l.fn.events l.events;
}
