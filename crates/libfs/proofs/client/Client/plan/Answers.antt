use Rattle.std.proofs.Common.{◌≡◌, ◌∙◌, ap}
use Rattle.std.specs.Option.{ForSome}
use Rattle.client_log.specs.call_effects.Knowledge.{part_of}
use Rattle.client_view.specs.client_plan.CallPlan.{outcome, OpensInRange, change_in}
use Rattle.client_view.specs.client_plan.declared.outcome.Outcome.{Outcome}
use Rattle.client_view.specs.KnowledgeTables.{knows}
use Rattle.libfs.specs.View.{ClientView}
use Rattle.libfs.specs.ClientHoldings.{holdings_of}
use Rattle.libfs.specs.CallStart.{MayGoOn}
use Rattle.libfs.proofs.Ready.{if_ok_from_both, may_go_on}
use Rattle.libfs.proofs.client.Client.plan.Goals as goal

pub returns-clause-ready : goal.returns-clause-ready
returns-clause-ready g c =
    let device = g.M.Media in
    let v = c.args.self.now in
    let call = c.args.call.now in
    if_ok_from_both c.plan_call.result (λ (o : Outcome). o ≡ outcome (part_of (knows c.self.inside.copies)) (holdings_of device v) call) (λ (o : Outcome). ForSome (change_in o) OpensInRange) (MayGoOn device v)
    (λ o is number.
    may_go_on device v call o (is ∙ ap (λ (w : ClientView _). outcome (part_of (knows w.copies)) (holdings_of device v) call) c.self.view_is) number
    c.logged_call_is_a_step.ensures.ready c.logged_call_can_be_prepared.ensures.made)
    c.plan_call.ensures.exact c.plan_call.ensures.number
