use Rattle.std.proofs.Common.{◌≡◌, drop, length}
use Rattle.client_view.specs.After.{run_laid}
use Rattle.client_view.specs.RecordReach.{AreShort, AreWhole}
use Rattle.client_view.proofs.block_runs.take_records.Given as goal

abbrev pub invariant-loop-place : goal.invariant-loop-place
invariant-loop-place l = record {
  laid : run_laid (drop l.place l.records) l.inode l.first l.run ≡ run_laid l.records l.inode l.first l.fn.run;
  as_long : length l.run ≡ length l.fn.run;
  short : AreShort l.run;
  whole : AreWhole l.whole l.run;
}
