use Rattle.std.proofs.Common.{[]}
use Rattle.inode_plan.specs.area_reader.Store.{Store, disk}
use Rattle.change_plan.proofs.PlansFile.{slot_tells_file}
use Rattle.change_plan.proofs.file_part.read_kept.Goals as goal

pub read_file-requires-clause-file : goal.read_file-requires-clause-file
read_file-requires-clause-file g c =
    let old = c.args.journal.now in
    let s : Store = disk g.M.Media old in
    slot_tells_file old.geometry s c.args.inode c.args.slot.now (λ k. []) c.requires.slot_is c.requires.is_file
