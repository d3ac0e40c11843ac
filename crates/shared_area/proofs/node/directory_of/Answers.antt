use Rattle.std.proofs.Common.{◌∙◌, ap, Some}
use Rattle.std.proofs.lemmas.Result.{err_from_is_err_and}
use Rattle.area_reader.specs.Store.{disk}
use Rattle.shared_area.proofs.Wants.{directory_wants}
use Rattle.shared_area.proofs.node.directory_of.Goals as goal

pub returns-in_err-map-in-Directory-clause-memory : goal.returns-in_err-map-in-Directory-clause-memory
returns-in_err-map-in-Directory-clause-memory g c =
    let old = c.args.journal.now in
    let s = disk g.M.Media old in
    let x = c.in-Directory in
    let is = c.requires.parts.slot ∙ ap Some x.is in
    let p = err_from_is_err_and c.from_residual.result c.from_residual.ensures.1 in
    rw (p.1, p.2) (λ memory. directory_wants old.geometry s c.args.inode x.names x.entries x.touch x.root c.requires.parts.number is (c.requires.opens.spelled.inodes c.args.inode c.requires.parts.number) (c.in_err-map-in-Directory.ensures.memory memory))
