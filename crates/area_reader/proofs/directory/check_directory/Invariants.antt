use Rattle.area_reader.specs.Store.{disk}
use Rattle.area_reader.specs.Looks.{Looks, call_answer}
use Rattle.area_reader.specs.Checks.{AreFirstParts}
use Rattle.area_reader.proofs.directory.check_directory.Given as goal

abbrev pub invariant-parts : goal.invariant-parts
invariant-parts g l =
    let m = g.M.Media in
    record {
      looks : Looks m l.fn.journal l.journal call_answer;
      before : AreFirstParts l.fn.journal.geometry (disk m l.fn.journal) l.inode l.entries l.number l.names;
    }
