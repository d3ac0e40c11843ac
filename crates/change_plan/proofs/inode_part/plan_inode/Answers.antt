use Rattle.change_plan.proofs.TakingMore.{takes_none, takes_still}
use Rattle.change_plan.proofs.inode_part.plan_inode.Goals as goal

pub returns-in_ok-plan_directory_part-in-Some-Directory-clause-planned : goal.returns-in_ok-plan_directory_part-in-Some-Directory-clause-planned
returns-in_ok-plan_directory_part-in-Some-Directory-clause-planned g c = c.in_ok-plan_directory_part-in-Some-Directory.ensures.planned c.args.places.now

pub returns-in_ok-plan_gone_part-in-None-clause-took : goal.returns-in_ok-plan_gone_part-in-None-clause-took
returns-in_ok-plan_gone_part-in-None-clause-took g c =
    let taken = c.args.plan.now.taken in
    takes_still c.args.pools.now c.args.pools.now taken taken c.plan_gone_part.new.plan.taken c.plan_gone_part.ensures.taken (takes_none c.args.pools.now taken c.requires.next.pools.undo)

pub returns-in_err-plan_gone_part-in-None-clause-took : goal.returns-in_err-plan_gone_part-in-None-clause-took
returns-in_err-plan_gone_part-in-None-clause-took g c =
    let taken = c.args.plan.now.taken in
    takes_still c.args.pools.now c.args.pools.now taken taken c.plan_gone_part.new.plan.taken c.plan_gone_part.ensures.taken (takes_none c.args.pools.now taken c.requires.next.pools.undo)
