use Rattle.std.proofs.Common.{◌≡◌, ℕ, ◌+◌, ◌≤◌}
use Rattle.std.specs.Prelude.{◌||◌, vec_len, vec_capacity}
use Rattle.lease_manager.specs.file_graph.Graph.{is_among}
use Rattle.kernel_fs.specs.Free.{count_of}
use Rattle.kernel_fs.specs.Inodes.{has}
use Rattle.libfs.proofs.grants.add_all.Given as goal

abbrev pub invariant-numbers : goal.invariant-numbers
invariant-numbers l = record {
  count : count_of (has l.left) + l.counter ≡ l.count;
  room : vec_len l.numbers + l.count ≤ vec_capacity l.numbers + l.counter;
  all : (i : ℕ) → (is_among i l.numbers.items || has l.left i) ≡ (is_among i l.fn.numbers.items || has l.fn.more i);
}
