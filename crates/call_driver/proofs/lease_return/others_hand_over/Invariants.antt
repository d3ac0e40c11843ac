use Rattle.call_driver.specs.LeaseReturn.{GaveWay}
use Rattle.call_driver.specs.Runs.{Leads}
use Rattle.call_driver.specs.EventOwner.{IsHandingOver}
use Rattle.call_driver.proofs.lease_return.others_hand_over.Given as goal

-- what was played so far: so many clients gave way
abbrev pub invariant-loop-before : goal.invariant-loop-before
invariant-loop-before g l = record {
  run : Leads g.E.Events.plays (IsHandingOver l.fn.inode) l.fn.events l.events;
  gave : GaveWay g.E.Events l.fn.client l.fn.inode l.before l.fn.events l.events;
}
