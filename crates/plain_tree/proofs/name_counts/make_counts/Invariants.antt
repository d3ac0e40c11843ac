use Rattle.std.proofs.Common.{◌≡◌, length}
use Rattle.plain_tree.specs.Plain.{count_at}
use Rattle.plain_tree.proofs.name_counts.make_counts.Given as goal

abbrev pub invariant-loop : goal.invariant-loop
invariant-loop l = (count_at l.counts.items ≡ count_at l.fn.counts.items) × (length l.counts.items ≡ l.counter)
