use Rattle.std.proofs.Common.{◌≡◌, ◌∙◌, Some, ap, subst, true}
use Rattle.std.proofs.lemmas.Result.{on_ok_weaker, IfErr-weaker}
use Rattle.batch_journal.specs.layout.declared.slot.Slot.{Slot}
use Rattle.batch_journal.specs.layout.Slot.{fits_slot}
use Rattle.area_reader.specs.Store.{Store, disk}
use Rattle.area_reader.proofs.Shown.{inode_is}
use Rattle.area_reader.proofs.Parts.{on_damage}
use Rattle.area_reader.proofs.Looked.{looks_none}
use Rattle.area_reader.proofs.Inodes.{is_file, is_entries, free_consistent, file_consistent, directory_consistent, few_entries, directory_own, tail_own}
use Rattle.area_reader.proofs.inode_checks.check_content.Goals as goal

pub returns-in-Free-clause-consistent : goal.returns-in-Free-clause-consistent
returns-in-Free-clause-consistent g c =
    let old = c.args.journal.now in
    free_consistent old.geometry (disk g.M.Media old) c.args.inode (c.requires.slot ∙ ap Some c.in-Free.is)

pub returns-in-Free-clause-looks : goal.returns-in-Free-clause-looks
returns-in-Free-clause-looks g c =
    let m = g.M.Media in
    looks_none m c.args.journal.now tt c.requires.going

pub check_file-requires-clause-file : goal.check_file-requires-clause-file
check_file-requires-clause-file g c =
    let old = c.args.journal.now in
    is_file old.geometry (disk g.M.Media old) c.args.inode _ _ _ _ _ _ (inode_is c.args.inode c.requires.low c.requires.high) (c.requires.slot ∙ ap Some c.in-File.is)

pub returns-in-File-clause-consistent : goal.returns-in-File-clause-consistent
returns-in-File-clause-consistent g c =
    let old = c.args.journal.now in
    let s : Store = disk g.M.Media old in
    let file = is_file old.geometry s c.args.inode _ _ _ _ _ _ (inode_is c.args.inode c.requires.low c.requires.high) (c.requires.slot ∙ ap Some c.in-File.is) in
    on_ok_weaker c.check_file.result (λ zero. file_consistent old.geometry s c.args.inode c.in-File.size file zero) c.check_file.ensures.zero

pub returns-in-File-clause-own : goal.returns-in-File-clause-own
returns-in-File-clause-own g c =
    let old = c.args.journal.now in
    IfErr-weaker c.check_file.result _ _ (λ e damaged. on_damage e (tail_own old.geometry (disk g.M.Media old) c.args.inode) damaged) c.check_file.ensures.damaged

pub check_directory-requires-clause-directory : goal.check_directory-requires-clause-directory
check_directory-requires-clause-directory g c =
    let old = c.args.journal.now in
    is_entries old.geometry (disk g.M.Media old) c.args.inode _ _ _ _ (inode_is c.args.inode c.requires.low c.requires.high) (c.requires.slot ∙ ap Some c.in-Directory.is)

pub check_directory-requires-clause-few : goal.check_directory-requires-clause-few
check_directory-requires-clause-few g c =
    let old = c.args.journal.now in
    few_entries old.geometry c.in-Directory.names c.in-Directory.entries c.in-Directory.touch c.in-Directory.root (subst (λ (x : Slot). fits_slot old.geometry x ≡ true) c.in-Directory.is c.requires.fits)

pub returns-in-Directory-clause-consistent : goal.returns-in-Directory-clause-consistent
returns-in-Directory-clause-consistent g c =
    let old = c.args.journal.now in
    let s : Store = disk g.M.Media old in
    let dir = is_entries old.geometry s c.args.inode _ _ _ _ (inode_is c.args.inode c.requires.low c.requires.high) (c.requires.slot ∙ ap Some c.in-Directory.is) in
    on_ok_weaker c.check_directory.result (λ are. directory_consistent old.geometry s c.args.inode c.in-Directory.entries dir are) c.check_directory.ensures.directory

pub returns-in-Directory-clause-own : goal.returns-in-Directory-clause-own
returns-in-Directory-clause-own g c =
    let old = c.args.journal.now in
    IfErr-weaker c.check_directory.result _ _ (λ e damaged. on_damage e (directory_own old.geometry (disk g.M.Media old) c.args.inode) damaged) c.check_directory.ensures.damaged
