use Rattle.std.proofs.Common.{◌<◌, arith}
use Rattle.call_driver.specs.EventOwner.{IsHandingOver}
use Rattle.call_driver.proofs.RunLemmas.{leads_then}
use Rattle.call_driver.proofs.Ways.{all_ways, one_more_way, stopped_way}
use Rattle.call_driver.proofs.lease_return.others_hand_over.Goals as goal

pub returns-in_default : goal.returns-in_default
returns-in_default g c =
    let few : c.loop-before.before < 8 = omega (arith, c.loop-before-test.true) in
    record {
      handed = stopped_way g.E.Events c.args.client c.args.inode c.loop-before.before c.release_lease.result _ _ _ few c.in_default.not-Again c.loop-before.invariant.gave c.release_lease.ensures.way;
      events = leads_then g.E.Events.plays (IsHandingOver c.args.inode) _ _ _ c.loop-before.invariant.run c.release_lease.ensures.events;
    }

pub loop-before-preserved : goal.loop-before-preserved
loop-before-preserved g c = record {
  run = leads_then g.E.Events.plays (IsHandingOver c.args.inode) _ _ _ c.loop-before.invariant.run c.release_lease.ensures.events;
  gave = one_more_way g.E.Events c.args.client c.args.inode c.loop-before.before _ _ _ c.loop-before.invariant.gave c.in-Again.ensures.way;
}

pub returns-clause-handed : goal.returns-clause-handed
returns-clause-handed g c = all_ways g.E.Events c.args.client c.args.inode c.loop-before.before _ _ (omega (arith, c.loop-before-test.false, c.loop-before.auto.before-end)) c.loop-before.invariant.gave
