use Rattle.std.proofs.Common.{◌≡◌, sym, ap, subst}
use Rattle.inode_plan.specs.graph_change.Net.{Base, Made}
use Rattle.inode_plan.specs.graph_change.View.{base_of}
use Rattle.inode_plan.specs.area_reader.Store.{Store, disk, inode}
use Rattle.change_plan.specs.FileStart.{IsStartedFile}
use Rattle.change_plan.proofs.PlansFile.{made_as_file}
use Rattle.change_plan.proofs.file_part.start_file.Goals as goal

pub returns-in-Made-clause-started : goal.returns-in-Made-clause-started
returns-in-Made-clause-started g c =
    let old = c.args.journal.now in
    let s : Store = disk g.M.Media old in
    let is : base_of c.args.base ≡ Made c.in-Made.kind = ap base_of c.in-Made.is in
    subst (λ (b : Base). IsStartedFile old.geometry s b c.args.inode c.made_file.result) (sym (made_as_file (base_of c.args.base) c.in-Made.kind (inode old.geometry s c.args.inode) is c.requires.is_file)) (c.made_file.ensures old.geometry s c.args.inode)
