use Rattle.std.proofs.Common.{Err}
use Rattle.client_plan.specs.CallPlan.{grant_step, settle_outcome}
use Rattle.client_plan.proofs.Courses.{then_goes, then_stops}
use Rattle.client_plan.proofs.Parted.{plan_comes}
use Rattle.client_plan.proofs.call_plan.plan.Goals as goal

pub returns-in-Ok-clause-comes : goal.returns-in-Ok-clause-comes
returns-in-Ok-clause-comes g c =
    let p = g.T.TreeAnswers.part c.args.tree.now in
    let h = g.S.Supplies.holdings c.args.has.now in
    let rest = then_goes {c = grant_step p h c.in_ok-new.new c.args.operation} (settle_outcome p h c.in_ok-new.new c.args.operation) c.in-Ok.ensures.comes c.settle.ensures.comes in
    plan_comes p h c.args.operation c.numbers.result.now c.makes_node.result c.in_ok-new.new c.settle.result c.numbers.ensures c.makes_node.ensures c.in_ok-new.ensures.comes rest

pub returns-in-Err-clause-comes : goal.returns-in-Err-clause-comes
returns-in-Err-clause-comes g c =
    let p = g.T.TreeAnswers.part c.args.tree.now in
    let h = g.S.Supplies.holdings c.args.has.now in
    let rest = then_stops {c = grant_step p h c.in_ok-new.new c.args.operation} (settle_outcome p h c.in_ok-new.new c.args.operation) c.in-Err.ensures.comes in
    plan_comes p h c.args.operation c.numbers.result.now c.makes_node.result c.in_ok-new.new (Err c.in-Err.stop) c.numbers.ensures c.makes_node.ensures c.in_ok-new.ensures.comes rest
