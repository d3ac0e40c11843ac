use Rattle.std.proofs.Common.{◌∙◌, refl, sym}
use Rattle.std.specs.Prelude.{None}
use Rattle.shared_area.specs.layout.Places.{Sizes}
use Rattle.shared_area.specs.area_reader.Store.{Store, disk, slot}
use Rattle.shared_area.specs.area_reader.Looks.{call_answer}
use Rattle.shared_area.specs.FirstRun.{FindsRun, file_lies}
use Rattle.shared_area.proofs.FirstRuns.{own_touch}
use Rattle.shared_area.proofs.area_reader_lemmas.Looked.{carried_back, looks_answer}
use Rattle.migrator.specs.declared.run_choice.TheConstants.{MOST_BLOCKS}
use Rattle.migrator.proofs.Best.{best_stays, candidate_none, candidate_some, found_is_best}
use Rattle.migrator.proofs.run_choice.next_best.Goals as goal

pub returns-in_default-clause-best : goal.returns-in_default-clause-best
returns-in_default-clause-best g c =
    let old = c.args.area.now in
    let s = disk g.M.Media old in
    best_stays old.geometry s c.args.tier c.args.inode c.args.best c.requires (candidate_none old.geometry s c.args.tier c.args.inode None refl (c.in_ok-touch.ensures.none c.in_default.is))

pub returns-in-Some-2-clause-best : goal.returns-in-Some-2-clause-best
returns-in-Some-2-clause-best g c =
    let m = g.M.Media in
    let old = c.args.area.now in
    let s = disk m old in
    let looked = looks_answer m old c.touch_in.new.self c.in_ok-touch.field-0 tt c.in_ok-touch.ensures.looks in
    let finds = carried_back m (λ (x : Sizes) (d : Store). FindsRun (file_lies x d c.args.inode c.args.tier) MOST_BLOCKS c.in_ok-run.field-0) old c.touch_in.new.self call_answer looked c.in_ok-run.ensures.run in
    let touch = own_touch (slot old.geometry s c.args.inode) c.args.tier c.in-Some.touch (sym c.in_ok-touch.ensures.touch ∙ c.in-Some.is) in
    found_is_best old.geometry s c.args.tier c.args.inode c.args.best (c.in-Some.touch, record { inode = c.args.inode; run = c.in-Some-2.run' }) c.requires
    (candidate_some old.geometry s c.args.tier c.args.inode c.in-Some-2.run' c.in_ok-run.field-0 c.in-Some.touch c.in-Some-2.is finds touch) (c.is_no_later.ensures.no c.if-is_no_later.false)

pub returns-in-None-clause-best : goal.returns-in-None-clause-best
returns-in-None-clause-best g c =
    let m = g.M.Media in
    let old = c.args.area.now in
    let s = disk m old in
    let looked = looks_answer m old c.touch_in.new.self c.in_ok-touch.field-0 tt c.in_ok-touch.ensures.looks in
    let finds = carried_back m (λ (x : Sizes) (d : Store). FindsRun (file_lies x d c.args.inode c.args.tier) MOST_BLOCKS c.in_ok-run.field-0) old c.touch_in.new.self call_answer looked c.in_ok-run.ensures.run in
    best_stays old.geometry s c.args.tier c.args.inode c.args.best c.requires (candidate_none old.geometry s c.args.tier c.args.inode c.in_ok-run.field-0 c.in-None.is finds)
