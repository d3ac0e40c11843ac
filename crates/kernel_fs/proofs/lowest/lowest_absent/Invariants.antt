use Rattle.std.proofs.Common.{◌≡◌, ℕ, ◌||◌}
use Rattle.kernel_fs.specs.Free.{AreLowest, is_absent}
use Rattle.kernel_fs.specs.Inodes.{has}
use Rattle.kernel_fs.proofs.lowest.lowest_absent.Given as goal

abbrev pub invariant-chosen : goal.invariant-chosen
invariant-chosen l = record {
  taken : (i : ℕ) → has l.taken i ≡ (has l.initial.taken i || has l.chosen i);
  lowest : AreLowest (is_absent (has l.initial.taken)) (has l.chosen) l.counter;
}
