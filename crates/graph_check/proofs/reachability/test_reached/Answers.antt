use Rattle.std.proofs.Common.{◌≡◌, ℕ, true}
use Rattle.graph_check.specs.Defects.{HasDirectory}
use Rattle.graph_check.specs.Marks.{is_marked}
use Rattle.graph_check.proofs.Marks.{more_below}
use Rattle.graph_check.proofs.reachability.test_reached.Goals as goal

pub loop-inode-preserved : goal.loop-inode-preserved
loop-inode-preserved c = λ g read.
    more_below (λ (j : ℕ). HasDirectory g j → is_marked c.args.marks.now j ≡ true) c.loop-inode.inode (c.loop-inode.invariant g read)
    (λ dir. c.is_reached.ensures.reached (let t : c.is_reached.result ≡ true = cc in t) g read dir)
