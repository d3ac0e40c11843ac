use Rattle.std.proofs.Common.{◌≤◌, ◌-◌, length}
use Rattle.area_reader.specs.Store.{disk, logical_block}
use Rattle.area_reader.specs.Looks.{Looks, call_answer}
use Rattle.shared_area.specs.FileReads.{IsReadUpTo}
use Rattle.shared_area.proofs.file_read.read_blocks.Given as goal

abbrev pub invariant-loop-done : goal.invariant-loop-done
invariant-loop-done g l =
    let m = g.M.Media in
    record {
      looks : Looks m l.fn.journal l.journal call_answer;
      few : l.done ≤ length l.out;
      read : IsReadUpTo (logical_block l.fn.journal.geometry (disk m l.fn.journal) l.inode) l.at l.done l.fn.out l.out;
    }

abbrev pub decreases-loop-done : goal.decreases-loop-done
decreases-loop-done g l = length l.out - l.done
