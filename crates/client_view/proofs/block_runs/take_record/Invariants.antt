use Rattle.std.proofs.Common.{◌≡◌, ◌≤◌, ◌<◌, ℕ, length, get_or, None}
use Rattle.client_view.specs.After.{run_after}
use Rattle.client_view.specs.RecordReach.{AreShort, AreWhole}
use Rattle.client_view.proofs.block_runs.take_record.Given as goal

abbrev pub invariant-loop-place : goal.invariant-loop-place
invariant-loop-place l = record {
  as_long : length l.run ≡ length l.fn.run;
  laid : (k : ℕ) → k < l.place → k < length l.fn.run → get_or l.run k None ≡ get_or (run_after l.entry.effects l.inode l.first l.fn.run) k None;
  left : (k : ℕ) → l.place ≤ k → get_or l.run k None ≡ get_or l.fn.run k None;
  short : AreShort l.run;
  whole : AreWhole l.known l.run;
}
