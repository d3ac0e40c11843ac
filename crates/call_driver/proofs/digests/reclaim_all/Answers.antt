use Rattle.std.proofs.Common.{◌≡◌, ◌+◌, arith, refl, subst}
use Rattle.std.proofs.lemmas.Result.{err_from_is_err_and}
use Rattle.interleavings.specs.event_steps.declared.event.Event.TheVariants as event
use Rattle.call_driver.specs.Digests.{Reclaims}
use Rattle.call_driver.specs.EventOwner.{IsReclaim}
use Rattle.call_driver.proofs.Chains.{one_more_file}
use Rattle.call_driver.proofs.RunLemmas.{leads_on}
use Rattle.call_driver.proofs.digests.reclaim_all.Goals as goal

pub returns-in_err-reclaim : goal.returns-in_err-reclaim
returns-in_err-reclaim g c =
    let p = err_from_is_err_and c.from_residual.result c.from_residual.ensures.1 in
    rw (p.1, p.2) (record {
      reclaimed = (c.loop-before.events, event.Reclaim (c.loop-before.before + 1), c.loop-before.invariant.run, (c.loop-before.before + 1, refl), c.in_err-reclaim.ensures.refused);
      events = leads_on g.E.Events.plays IsReclaim _ _ (event.Reclaim (c.loop-before.before + 1)) _ c.loop-before.invariant.run (c.loop-before.before + 1, refl) (c.in_err-reclaim.ensures.refused.0, c.in_err-reclaim.ensures.refused.1);
    })

pub loop-before-preserved : goal.loop-before-preserved
loop-before-preserved g c = record {
  run = leads_on g.E.Events.plays IsReclaim _ _ (event.Reclaim (c.loop-before.before + 1)) _ c.loop-before.invariant.run (c.loop-before.before + 1, refl) (c.in_ok-reclaim.ensures.reclaimed.1.0, c.in_ok-reclaim.ensures.reclaimed.1.1);
  reclaims = one_more_file g.E.Events.plays c.loop-before.before _ _ _ c.loop-before.invariant.reclaims c.in_ok-reclaim.ensures.reclaimed;
}

pub returns-clause-reclaimed : goal.returns-clause-reclaimed
returns-clause-reclaimed g c =
    let all : c.loop-before.before ≡ 1024 = omega (arith, c.loop-before-test.false, c.loop-before.auto.before-end) in
    subst (λ m. Reclaims g.E.Events.plays m c.args.events.now c.loop-before.events) all c.loop-before.invariant.reclaims
