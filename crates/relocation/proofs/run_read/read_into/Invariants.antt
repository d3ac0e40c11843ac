use Rattle.std.proofs.Common.{◌≡◌, length}
use Rattle.inode_plan.specs.area_reader.Store.{disk, logical_block}
use Rattle.inode_plan.specs.area_reader.Looks.{Looks, call_answer}
use Rattle.inode_plan.specs.Lists.{HoldsRun}
use Rattle.relocation.proofs.run_read.read_into.Given as goal

-- the first blocks are read
abbrev pub invariant-each : goal.invariant-each
invariant-each g l =
    let m = g.M.Media in
    record {
      looks : Looks m l.fn.journal l.journal call_answer;
      long : length l.out ≡ length l.fn.out;
      holds : HoldsRun (logical_block l.fn.journal.geometry (disk m l.fn.journal) l.inode) l.fn.run.first l.place l.out;
    }
