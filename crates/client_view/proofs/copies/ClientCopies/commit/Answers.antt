use Rattle.std.proofs.Common.{◌≡◌, List, ap, sym, ◌∙◌, subst}
use Rattle.client_plan.specs.file_graph.declared.effect.Effect.{Effect}
use Rattle.client_plan.specs.call_effects.Knowledge.{Knowledge}
use Rattle.client_view.specs.KnowledgeTables.{Held, knows}
use Rattle.client_view.specs.AfterRecord.{with_change, with_made, without_touched}
use Rattle.client_view.specs.Preparation.{AreReady}
use Rattle.client_view.proofs.copies.ClientCopies.commit.Goals as goal

pub act_each-requires-clause-ready : goal.act_each-requires-clause-ready
act_each-requires-clause-ready c =
    let changed : knows c.change_descriptor.new.self ≡ with_change (with_made (knows c.args.self.now) c.args.change.now.made) c.args.change.now.descriptor =
    c.change_descriptor.ensures.known ∙ ap (λ (k : Knowledge). with_change k c.args.change.now.descriptor) c.use_made.ensures.known in
    subst (λ (k : Knowledge). AreReady c.args.change.now.rooms.items c.as_slice.result.now k.copies) (sym changed)
    (subst (λ (es : List Effect). AreReady c.args.change.now.rooms.items es (with_made (knows c.args.self.now) c.args.change.now.made).copies) (sym c.as_slice.ensures) c.requires.nodes)

pub returns-clause-order : goal.returns-clause-order
returns-clause-order c =
    c.act_each.ensures.order
    ∙ ap (without_touched c.change_descriptor.new.self.blocks) c.as_slice.ensures
    ∙ ap (λ (h : Held). without_touched h.blocks c.args.change.now.logged.effects) c.change_descriptor.ensures.rest
    ∙ ap (λ bs. without_touched bs c.args.change.now.logged.effects) c.use_made.ensures.order
