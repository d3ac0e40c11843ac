use Rattle.std.proofs.Common.{length, sym}
use Rattle.extent_tree.proofs.Packs.{some-from}
use Rattle.extent_tree.proofs.Rising.{last-at}
use Rattle.extent_tree.proofs.node.end_of.Goals as goal

pub returns : goal.returns
returns c = sym (last-at 0 c.args.entries.now (record { logical = 0; length = 0; place = 0 }) (some-from (length c.args.entries.now) c.is_empty.result c.is_empty.ensures c.if-is_empty.false))
