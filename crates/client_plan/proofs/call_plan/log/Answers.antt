use Rattle.std.proofs.Common.{◌≡◌, Some, None, cond, ap, sym, ◌∙◌}
use Rattle.posix_calls.specs.declared.call.Reply.TheVariants.{Done}
use Rattle.client_plan.specs.CallPlan.{made_by}
use Rattle.client_plan.proofs.Parted.{answered, log_stops, log_told}
use Rattle.client_plan.proofs.call_plan.log.Goals as goal
use Rattle.client_plan.proofs.call_plan.log.Goals.{then-makes_node, else-makes_node}

pub returns-in-Ok-clause-comes : goal.returns-in-Ok-clause-comes
returns-in-Ok-clause-comes g c =
    let p = g.T.TreeAnswers.part c.args.tree.now in
    let h = g.S.Supplies.holdings c.args.has.now in
    let reply = answered c.args.operation c.reply.result Done c.unwrap_or-reply.result c.unwrap_or-reply.ensures c.reply.ensures c.requires.changes in
    let made : c.if-makes_node.made ≡ made_by c.args.new c.args.operation = elim c.if-makes_node.branch [
      | then-makes_node w ↦ w.made-is ∙ sym (ap (λ b. cond b (Some c.args.new) None) (sym c.makes_node.ensures ∙ w.if-makes_node.true))
      | else-makes_node w ↦ w.made-is ∙ sym (ap (λ b. cond b (Some c.args.new) None) (sym c.makes_node.ensures ∙ w.if-makes_node.false))
    ] in
    log_told p h c.args.new c.args.operation c.args.units c.in-Ok.record c.unwrap_or-reply.result c.if-makes_node.made c.change_of-change.result reply made c.change_of-change.ensures.is c.in-Ok.ensures.comes

pub returns-in-Err-clause-comes : goal.returns-in-Err-clause-comes
returns-in-Err-clause-comes g c =
    let p = g.T.TreeAnswers.part c.args.tree.now in
    let h = g.S.Supplies.holdings c.args.has.now in
    log_stops p h c.args.new c.args.operation c.args.units c.in-Err.stop c.in-Err.ensures.comes
