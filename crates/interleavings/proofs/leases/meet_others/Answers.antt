use Rattle.std.proofs.Common.{ℕ, ◌<◌, ◌≤◌, arith, subst, ◌∙◌}
use Rattle.system_laws.specs.event_steps.View.{SystemView}
use Rattle.system_laws.specs.Leaves.{HaveMet}
use Rattle.interleavings.proofs.EachClient.{met_all, with_next}
use Rattle.interleavings.proofs.leases.meet_others.Goals as goal

pub others-preserved : goal.others-preserved
others-preserved g c =
    let same = c.others.invariant.same in
    record {
      same = c.meet_one.ensures.same ∙ same;
      above = with_next (λ (d : ℕ). c.args.client < d → HaveMet c.args.system.now c.args.client d) c.others.other c.others.invariant.above (λ over. subst (λ (w : SystemView _). HaveMet w c.args.client c.others.other) same (c.meet_one.ensures.above over));
      below = with_next (λ (d : ℕ). d < c.args.client → HaveMet c.args.system.now d c.args.client) c.others.other c.others.invariant.below (λ under. subst (λ (w : SystemView _). HaveMet w c.others.other c.args.client) same (c.meet_one.ensures.below under));
    }

pub returns-clause-met : goal.returns-clause-met
returns-clause-met g c = λ _. met_all c.args.system.now c.args.client c.others.other nine c.others.invariant.above c.others.invariant.below
  where
    nine : 9 ≤ c.others.other
    nine = grind arith
