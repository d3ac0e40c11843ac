use Rattle.change_plan.proofs.inode_drop.give_all.Goals as goal

pub returns-clause-adds : goal.returns-clause-adds
returns-clause-adds g c = record { lost = c.in_ok-its.its; all = c.in_ok-its.ensures.all; both = c.in_ok-push_lost.ensures }
