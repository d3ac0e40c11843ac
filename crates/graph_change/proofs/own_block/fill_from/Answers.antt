use Rattle.std.proofs.Common.{◌∙◌, arith}
use Rattle.graph_change.proofs.Marks.{filled}
use Rattle.graph_change.proofs.own_block.fill_from.Goals as goal

pub returns-clause-items : goal.returns-clause-items
returns-clause-items c =
    let cut = c.truncate.ensures.len in
    let long = c.args.slots.now.ok.0 in
    let within = c.requires.within in
    let end = c.requires.end in
    c.in-Ok.ensures.items ∙ filled c.args.slots.now.items c.truncate.new.self.items 8192 c.args.place c.truncate.new.self.len c.args.value c.truncate.ensures.items within (omega (arith, end)) (omega (arith, cut, long, within))
