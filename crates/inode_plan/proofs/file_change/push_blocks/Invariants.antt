use Rattle.area_commit.specs.area_reader.Store.{disk, logical_block}
use Rattle.area_commit.specs.area_reader.Looks.{Looks, call_answer}
use Rattle.area_commit.specs.graph_change.View.{change_of}
use Rattle.inode_plan.specs.Bytes.{AddsBlocks, blocks_from}
use Rattle.inode_plan.proofs.file_change.push_blocks.Given as goal

abbrev pub invariant-each : goal.invariant-each
invariant-each g l =
    let m = g.M.Media in
    record {
      looks : Looks m l.fn.journal l.journal call_answer;
      added : AddsBlocks (change_of l.change) (blocks_from l.found (logical_block l.fn.journal.geometry (disk m l.fn.journal) l.inode)) l.numbers l.index l.fn.out.items l.out.items;
    }
