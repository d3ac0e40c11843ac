use Rattle.std.proofs.Common.{◌≡◌, ◌≤◌, ◌<◌, ℕ, false}
use Rattle.std.specs.Prelude.{IsTrue, slice_index}
use Rattle.strata_threads.specs.ClientCalls.{KeepsCall}
use Rattle.strata_threads.specs.HeardQuestions.{HasGivenAskedRows, IsSomeLeft}
use Rattle.strata_threads.specs.LeaseReturn.{HasOnlyGiven}
use Rattle.strata_threads.proofs.Questions.{RowsAreGivenOrAsked, RowsAreHeld}
use Rattle.strata_threads.proofs.idle_turn.give_asked.Given as goal

abbrev pub invariant-loop-row : goal.invariant-loop-row
invariant-loop-row g l = record {
  answered : RowsAreGivenOrAsked l.row l.client l.fn.asked l.asked;
  only : RowsAreHeld l.row l.client l.fn.asked l.asked;
  later : (row : ℕ) → l.row ≤ row → slice_index l.asked row ≡ slice_index l.fn.asked row;
  left : l.is_left ≡ false → (row : ℕ) → row < l.row → slice_index l.asked row ≡ 0;
  some : IsTrue l.is_left → IsSomeLeft l.row l.asked;
  unasked : HasGivenAskedRows l.row l.fn.asked l.fn.client l.client;
  given : HasOnlyGiven l.fn.client l.client;
  kept : KeepsCall l.fn.client l.client;
}
