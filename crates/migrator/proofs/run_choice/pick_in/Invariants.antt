use Rattle.shared_area.specs.area_reader.Store.{disk}
use Rattle.shared_area.specs.area_reader.Looks.{Looks, call_answer}
use Rattle.migrator.specs.RunChoice.{IsBestBelow}
use Rattle.migrator.proofs.run_choice.pick_in.Given as goal

abbrev pub invariant-inodes : goal.invariant-inodes
invariant-inodes g l =
    let m = g.M.Media in
    record {
      looks : Looks m l.fn.area l.area call_answer;
      best : IsBestBelow l.fn.area.geometry (disk m l.fn.area) l.tier l.inode l.best;
    }
