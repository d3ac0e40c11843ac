use Rattle.std.proofs.Common.{List, subst}
use Rattle.client_plan.specs.file_graph.declared.effect.Effect.{Effect}
use Rattle.client_view.specs.RecordReach.{IsReachOf}
use Rattle.client_view.proofs.Reached.{all_pushed, pushed}
use Rattle.client_view.proofs.own_records.OwnRecords.push.Goals as goal

pub invariant_of-self : goal.invariant_of-self
invariant_of-self c = (
  c.self.invariant.0,
  all_pushed c.self.inside.current.items c.push_within-2.new.list.items c.args.logged c.push_within-2.ensures c.self.invariant.1 c.requires.spelled,
  c.self.invariant.2,
  c.self.invariant.3,
  pushed c.self.inside.current_reaches.items c.push_within.new.list.items c.self.inside.current.items c.push_within-2.new.list.items c.of-reach.result c.args.logged c.push_within.ensures c.push_within-2.ensures c.self.invariant.4
      (subst (λ (es : List Effect). IsReachOf es c.of-reach.result) c.as_slice.ensures c.of-reach.ensures),
)
