use Rattle.area_reader.specs.Store.{disk}
use Rattle.area_reader.specs.Format.{IsOpenable}
use Rattle.area_reader.proofs.Looked.{carried}
use Rattle.shared_area.proofs.Sound.{parts_none}
use Rattle.shared_area.proofs.Entries.{no_directory}
use Rattle.shared_area.proofs.node.find_directory.Goals as goal

pub directory_of-requires-clause-opens : goal.directory_of-requires-clause-opens
directory_of-requires-clause-opens g c =
    let m = g.M.Media in
    let looks = c.in_ok-parts.ensures.looks in
    carried m (λ x s. IsOpenable x s) c.args.journal.now c.find_parts.new.journal _ looks (c.requires looks.going.0)

pub returns-in-None-clause-directory : goal.returns-in-None-clause-directory
returns-in-None-clause-directory g c =
    let old = c.args.journal.now in
    let s = disk g.M.Media old in
    no_directory old.geometry s c.args.inode (parts_none old.geometry s c.args.inode c.in_ok-parts.field-0 c.in-None.is c.in_ok-parts.ensures.parts)
