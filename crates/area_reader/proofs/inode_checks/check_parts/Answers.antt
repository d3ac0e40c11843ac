use Rattle.std.proofs.Common.{◌<◌, Err, sym, subst, inl, inr}
use Rattle.std.proofs.lemmas.Result.{on_ok_weaker}
use Rattle.batch_journal.specs.layout.declared.error.What.TheVariants as what
use Rattle.area_reader.specs.declared.error.AreaError.TheVariants as errors
use Rattle.area_reader.specs.Store.{Store, disk}
use Rattle.area_reader.specs.Checks.{IsOnce}
use Rattle.area_reader.proofs.Shown.{inode_is}
use Rattle.area_reader.proofs.Looked.{looks_other, looks_none}
use Rattle.area_reader.proofs.Inodes.{once_all, twice_damage, spells}
use Rattle.area_reader.proofs.inode_checks.check_parts.Goals as goal

pub returns-in-Some-clause-own : goal.returns-in-Some-clause-own
returns-in-Some-clause-own g c =
    let old = c.args.journal.now in
    let s : Store = disk g.M.Media old in
    let e = c.in-Some.ensures.some in
    inr (inl (twice_damage old.geometry s c.args.inode c.args.parts.now.slot c.requires.slot c.args.parts.now.extents c.requires.found (inode_is c.args.inode c.requires.low c.requires.high) c.in-Some.tier e.0 c.root_of.result c.root_of.ensures e.2))

pub returns-in-Some-clause-looks : goal.returns-in-Some-clause-looks
returns-in-Some-clause-looks g c =
    let m = g.M.Media in
    let old = c.args.journal.now in
    looks_other m old old (tt {0}) (Err (errors.Damaged what.ExtentBlock c.root_of.result)) (looks_none m old (tt {0}) c.requires.going) (λ e. cc)

pub check_content-requires-clause-once : goal.check_content-requires-clause-once
check_content-requires-clause-once g c =
    let old = c.args.journal.now in
    let s : Store = disk g.M.Media old in
    once_all old.geometry s c.args.inode c.args.parts.now.slot c.requires.slot c.args.parts.now.extents c.requires.found (λ k lt. c.in-None.ensures.none k (subst (λ n. k < n) (sym c.length_of.ensures) lt))

pub returns-in-None-clause-spelled : goal.returns-in-None-clause-spelled
returns-in-None-clause-spelled g c =
    let old = c.args.journal.now in
    let s : Store = disk g.M.Media old in
    let once : IsOnce old.geometry s c.args.inode = once_all old.geometry s c.args.inode c.args.parts.now.slot c.requires.slot c.args.parts.now.extents c.requires.found (λ k lt. c.in-None.ensures.none k (subst (λ n. k < n) (sym c.length_of.ensures) lt)) in
    on_ok_weaker c.check_content.result (λ consistent. spells old.geometry s c.args.inode c.args.parts.now.slot c.requires.slot c.args.parts.now.extents c.requires.found once consistent) c.check_content.ensures.consistent
