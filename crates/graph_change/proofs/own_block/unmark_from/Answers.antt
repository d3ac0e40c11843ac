use Rattle.std.proofs.Common.{◌-◌, length, refl}
use Rattle.graph_change.proofs.Marks.{fewer_set}
use Rattle.graph_change.proofs.own_block.unmark_from.Goals as goal

pub returns-clause-fewer : goal.returns-clause-fewer
returns-clause-fewer c =
    let ms = c.args.marks.now in
    let at = c.args.place in
    fewer_set ms c.unmark.new.marks at (length ms - at) c.count_set-set.result refl c.unmark.ensures c.count_set-set.ensures.count
