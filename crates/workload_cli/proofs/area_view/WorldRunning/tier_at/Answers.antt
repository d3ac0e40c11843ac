use Rattle.workload_cli.proofs.Looked.{same_place}
use Rattle.workload_cli.proofs.area_view.WorldRunning.tier_at.Goals as goal

pub returns-in-Ok-clause-tier : goal.returns-in-Ok-clause-tier
returns-in-Ok-clause-tier g c =
    let m = g.M.Media in
    (c.in_ok-inode.inode, c.in_ok-inode.ensures.file, same_place m c.args.self.now.system c.file_at.new.self.system c.in_ok-inode.inode c.args.block c.in-Ok.tier c.in_ok-inode.ensures.looks c.in-Ok.ensures.tier)
