use Rattle.std.proofs.Common.{◌≡◌, ℕ, None, length, get_or, []}
use Rattle.posix_calls.specs.Own.{own_of}
use Rattle.plain_tree.proofs.plain.no_descriptors.Given as goal

abbrev pub invariant-loop : goal.invariant-loop
invariant-loop l = ((c n : ℕ) → own_of (get_or l.rows.items c []) n ≡ None) × (length l.rows.items ≡ l.counter)
