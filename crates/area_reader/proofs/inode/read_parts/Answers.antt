use Rattle.std.proofs.lemmas.Result.{IfErr-weaker}
use Rattle.area_reader.specs.Store.{disk}
use Rattle.area_reader.proofs.Shown.{inode_is}
use Rattle.area_reader.proofs.Parts.{on_damage, found_all, part_damage}
use Rattle.area_reader.proofs.inode.read_parts.Goals as goal

pub returns-clause-extents : goal.returns-clause-extents
returns-clause-extents g c =
    let old = c.args.journal.now in
    let read = c.read_inode_parts.ensures in
    found_all old.geometry (disk g.M.Media old) c.args.inode c.read_inode_parts.result read.slot read.blocks

pub returns-clause-own : goal.returns-clause-own
returns-clause-own g c =
    let old = c.args.journal.now in
    IfErr-weaker c.read_inode_parts.result _ _ (λ e damaged. on_damage e (part_damage old.geometry (disk g.M.Media old) c.args.inode (inode_is c.args.inode c.requires.low c.requires.high)) damaged) c.read_inode_parts.ensures.damaged
