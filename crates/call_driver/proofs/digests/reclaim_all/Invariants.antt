use Rattle.call_driver.specs.Digests.{Reclaims}
use Rattle.call_driver.specs.Runs.{Leads}
use Rattle.call_driver.specs.EventOwner.{IsReclaim}
use Rattle.call_driver.proofs.digests.reclaim_all.Given as goal

-- what was played so far: so many files were tried
abbrev pub invariant-loop-before : goal.invariant-loop-before
invariant-loop-before g l = record {
  run : Leads g.E.Events.plays IsReclaim l.fn.events l.events;
  reclaims : Reclaims g.E.Events.plays l.before l.fn.events l.events;
}
