use Rattle.area_reader.proofs.Uses.{tier_more}
use Rattle.area_reader.proofs.inode_marks.mark_tier.Goals as goal

pub returns : goal.returns
returns c = tier_more c.args.used.now c.mark_tree.new.used c.mark_places.new.used c.args.parts.now c.args.tier c.if-mark_tree.ensures c.mark_places.result c.mark_places.ensures
