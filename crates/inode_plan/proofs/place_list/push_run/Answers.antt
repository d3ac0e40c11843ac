use Rattle.inode_plan.proofs.Taking.{place_more}
use Rattle.inode_plan.proofs.place_list.push_run.Goals as goal

pub each-preserved : goal.each-preserved
each-preserved c = place_more c.args.tier c.args.run.first c.each.block c.args.out.now.items c.each.out.items c.push.new.self.items c.each.auto.block c.in_ok-push.ensures.items c.each.invariant
