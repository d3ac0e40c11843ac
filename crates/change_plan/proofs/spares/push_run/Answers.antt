use Rattle.change_plan.proofs.Sparing.{block_more}
use Rattle.change_plan.proofs.spares.push_run.Goals as goal

pub each-preserved : goal.each-preserved
each-preserved c = block_more c.args.run.first c.each.block c.args.out.now.items c.each.out.items c.push.new.self.items c.each.auto.block c.in_ok-push.ensures.items c.each.invariant
