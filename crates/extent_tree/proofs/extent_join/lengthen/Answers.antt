use Rattle.std.proofs.Common.{arith}
use Rattle.extent_tree.proofs.Joined.{lengthened-at}
use Rattle.extent_tree.proofs.extent_join.lengthen.Goals as goal

pub returns : goal.returns
returns c = lengthened-at c.len-at.result c.args.length c.args.extents.now.items c.index-last.result.now (omega (arith, c.len-at.ensures, c.requires.some)) (omega (arith, c.len-at.ensures)) c.index-last.ensures
