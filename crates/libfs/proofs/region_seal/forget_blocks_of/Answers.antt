use Rattle.std.proofs.Common.{refl, ap, ◌∙◌, rules}
use Rattle.client_view.specs.KnowledgeTables.{knows}
use Rattle.client_view.specs.KnowledgeChanges.{without_blocks_at}
use Rattle.client_view.specs.AfterRecord.{without_touched}
use Rattle.libfs.proofs.Forgetting.{left_all, left_next, left_none, of_all, of_next, of_none}
use Rattle.libfs.proofs.region_seal.forget_blocks_of.Goals as goal

pub loop-entry-init : goal.loop-entry-init
loop-entry-init c = record { known = of_none (knows c.args.copies.now); order = left_none c.args.copies.now.blocks; rest = refl }

pub loop-entry-preserved : goal.loop-entry-preserved
loop-entry-preserved c = record {
  known = of_next (knows c.args.copies.now) (knows c.loop-entry.copies) (knows c.forget_touched.new.self) c.args.records.now c.loop-entry.entry-index c.entry-item.result c.loop-entry-test.true c.entry-item.is c.loop-entry.invariant.known (c.forget_touched.ensures.known ∙ ap (without_blocks_at (knows c.loop-entry.copies)) c.as_slice.ensures);
  order = left_next c.args.copies.now.blocks c.loop-entry.copies.blocks c.forget_touched.new.self.blocks c.args.records.now c.loop-entry.entry-index c.entry-item.result c.loop-entry-test.true c.entry-item.is c.loop-entry.invariant.order (c.forget_touched.ensures.order ∙ ap (without_touched c.loop-entry.copies.blocks) c.as_slice.ensures);
  rest = search rules;
}

pub returns-clause-known : goal.returns-clause-known
returns-clause-known c = of_all (knows c.args.copies.now) (knows c.loop-entry.copies) c.args.records.now c.loop-entry.entry-index c.loop-entry-test.false c.loop-entry.invariant.known

pub returns-clause-order : goal.returns-clause-order
returns-clause-order c = left_all c.args.copies.now.blocks c.loop-entry.copies.blocks c.args.records.now c.loop-entry.entry-index c.loop-entry-test.false c.loop-entry.invariant.order
