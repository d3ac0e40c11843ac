use Rattle.std.proofs.Common.{◌+◌, ◌-◌, arith}
use Rattle.graph_change.proofs.Marks.{more_set}
use Rattle.graph_change.proofs.own_block.mark_more.Goals as goal

pub returns-clause-more : goal.returns-clause-more
returns-clause-more c =
    let at = c.args.at in
    let n = c.args.count in
    more_set c.args.marks.now c.mark.new.marks at n (at + n - at) c.count_set-set.result (omega arith) c.mark.ensures c.count_set-set.ensures.count
