use Rattle.std.proofs.Common.{◌∙◌, Some, ap}
use Rattle.std.proofs.lemmas.Result.{err_from_is_err_and}
use Rattle.area_reader.specs.Store.{disk}
use Rattle.shared_area.proofs.Entries.{file_view}
use Rattle.shared_area.proofs.Wants.{directory_wants}
use Rattle.shared_area.proofs.node.node_of.Goals as goal

pub returns-in-File-clause-node : goal.returns-in-File-clause-node
returns-in-File-clause-node g c =
    let old = c.args.journal.now in
    let x = c.in-File in
    ap Some c.file.ensures ∙ file_view old.geometry (disk g.M.Media old) c.args.inode x.names x.size x.touch x.fast x.block x.slow (c.requires.parts.slot ∙ ap Some x.is)

pub returns-in_err-map-in-Directory-clause-memory : goal.returns-in_err-map-in-Directory-clause-memory
returns-in_err-map-in-Directory-clause-memory g c =
    let old = c.args.journal.now in
    let s = disk g.M.Media old in
    let x = c.in-Directory in
    let is = c.requires.parts.slot ∙ ap Some x.is in
    let p = err_from_is_err_and c.from_residual.result c.from_residual.ensures.1 in
    rw (p.1, p.2) (λ memory. directory_wants old.geometry s c.args.inode x.names x.entries x.touch x.root c.requires.parts.number is (c.requires.opens.spelled.inodes c.args.inode c.requires.parts.number) (c.in_err-map-in-Directory.ensures.memory memory))
