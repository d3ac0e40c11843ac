use Rattle.area_reader.proofs.Uses.{root_room, root_marked}
use Rattle.area_reader.proofs.inode_marks.mark_root.Goals as goal

pub mark-requires : goal.mark-requires
mark-requires c = root_room c.args.used.now c.args.parts.now c.args.tier c.root_of-root.result c.requires c.root_of-root.ensures c.if-root-eq0.false

pub returns : goal.returns
returns c = root_marked c.args.used.now c.mark.new.self c.args.parts.now c.args.tier c.root_of-root.result c.root_of-root.ensures c.if-root-eq0.false c.mark.result c.mark.ensures.was c.mark.ensures.marks
