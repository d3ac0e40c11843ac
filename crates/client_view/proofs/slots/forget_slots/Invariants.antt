use Rattle.std.proofs.Common.{◌≡◌, ◌<◌, ℕ, None, length}
use Rattle.client_view.specs.KnowledgeTables.{copy_at}
use Rattle.client_view.proofs.slots.forget_slots.Given as goal

-- the slots before this one are forgotten
abbrev pub invariant-loop-place : goal.invariant-loop-place
invariant-loop-place l = record {
  forgotten : (i : ℕ) → i < l.place → copy_at l.slots.items i ≡ None;
  all : length l.slots.items ≡ length l.fn.slots.items;
}
