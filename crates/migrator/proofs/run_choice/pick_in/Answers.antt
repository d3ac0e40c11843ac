use Rattle.std.proofs.Common.{◌+◌, ◌∙◌, Option, sym, subst}
use Rattle.shared_area.specs.layout.Places.{Sizes}
use Rattle.shared_area.specs.area_reader.Store.{Store, disk}
use Rattle.shared_area.specs.area_reader.Looks.{call_answer}
use Rattle.shared_area.proofs.area_reader_lemmas.Looked.{carried, carried_back, looks_on, looks_none, looks_answer}
use Rattle.migrator.specs.declared.run_choice.FileRun.{FileRun}
use Rattle.migrator.specs.RunChoice.{IsBestBelow, IsPickedIn}
use Rattle.migrator.proofs.Best.{best_none, best_of_all}
use Rattle.migrator.proofs.run_choice.pick_in.Goals as goal

pub inodes-init : goal.inodes-init
inodes-init g c =
    let m = g.M.Media in
    let old = c.args.area.now in
    record {
      looks = looks_none m old tt (sym c.has_failed.ensures ∙ c.if-has_failed.false);
      best = best_none old.geometry (disk m old) c.args.tier;
    }

pub next_best-requires : goal.next_best-requires
next_best-requires g c =
    let m = g.M.Media in
    carried m (λ (x : Sizes) (s : Store). IsBestBelow x s c.args.tier c.inodes.inode c.inodes.best) c.args.area.now c.inodes.area call_answer c.inodes.invariant.looks c.inodes.invariant.best

pub inodes-preserved : goal.inodes-preserved
inodes-preserved g c =
    let m = g.M.Media in
    let old = c.args.area.now in
    record {
      looks = looks_on m old c.inodes.area c.next_best.new.area tt call_answer c.inodes.invariant.looks
          (looks_answer m c.inodes.area c.next_best.new.area c.in_ok-best.best tt c.in_ok-best.ensures.looks);
      best = carried_back m (λ (x : Sizes) (s : Store). IsBestBelow x s c.args.tier (c.inodes.inode + 1) c.in_ok-best.best) old c.inodes.area call_answer c.inodes.invariant.looks c.in_ok-best.ensures.best;
    }

pub returns-clause-picked : goal.returns-clause-picked
returns-clause-picked g c =
    let old = c.args.area.now in
    subst (λ (o : Option FileRun). IsPickedIn old.geometry (disk g.M.Media old) c.args.tier o) (sym c.best_run.ensures)
    (best_of_all old.geometry (disk g.M.Media old) c.args.tier c.inodes.inode c.inodes.best c.inodes-test.false c.inodes.invariant.best)
