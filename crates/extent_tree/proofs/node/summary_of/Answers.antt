use Rattle.std.proofs.Common.{◌<◌, ◌-◌, arith, length, sym}
use Rattle.extent_tree.proofs.Rising.{rising-at}
use Rattle.extent_tree.proofs.Summaries.{first-to-last, summary-at}
use Rattle.extent_tree.proofs.node.summary_of.Goals as goal

pub overflow_add-result : goal.overflow_add-result
overflow_add-result c =
    let at : length c.args.entries.now - 1 < length c.args.entries.now = omega (arith, c.requires.some) in
    omega (arith, (rising-at 0 4294967295 (length c.args.entries.now - 1) c.args.entries.now (record { logical = 0; length = 0; place = 0 }) c.requires.rising at).2)

pub overflow_sub-result : goal.overflow_sub-result
overflow_sub-result c = first-to-last 0 4294967295 c.args.entries.now (record { logical = 0; length = 0; place = 0 }) c.requires.rising c.requires.some

pub returns : goal.returns
returns c = sym (summary-at c.args.number c.args.entries.now (record { logical = 0; length = 0; place = 0 }) c.requires.some)
