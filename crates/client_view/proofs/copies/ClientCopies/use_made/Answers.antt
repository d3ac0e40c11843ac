use Rattle.std.proofs.Common.{ap, sym, ◌∙◌}
use Rattle.client_plan.specs.call_effects.Knowledge.{Knowledge}
use Rattle.client_view.specs.KnowledgeChanges.{without_granted}
use Rattle.client_view.specs.KnowledgeTables.{Held, knows}
use Rattle.client_view.specs.AfterRecord.{with_made, without_made}
use Rattle.client_view.proofs.LeftBlocks.{left_made}
use Rattle.client_view.proofs.copies.ClientCopies.use_made.Goals as goal

pub returns-in-Some-clause-known : goal.returns-in-Some-clause-known
returns-in-Some-clause-known c = c.use_number.ensures.known ∙ ap (λ (k : Knowledge). without_granted k c.in-Some.number) c.put_view.ensures.known ∙ ap (with_made (knows c.args.self.now)) (sym c.in-Some.is)

pub returns-in-Some-clause-order : goal.returns-in-Some-clause-order
returns-in-Some-clause-order c = ap (λ (h : Held). h.blocks) c.use_number.ensures.kept ∙ ap (λ (h : Held). h.blocks) c.put_view.ensures.rest ∙ ap (without_made c.args.self.now.blocks) (sym c.in-Some.is)

pub returns-in-None-clause-order : goal.returns-in-None-clause-order
returns-in-None-clause-order c = left_made c.args.self.now.blocks c.args.made c.in-None.is
