use Rattle.std.proofs.Common.{◌≢◌, ◌<◌, ℕ, None}
use Rattle.plain_tree.specs.Plain.{stored_tree}
use Rattle.posix_calls.specs.declared.limits.TheConstants.{ROOT}
use Rattle.plain_tree.proofs.nodes.lowest_free.Given as goal

abbrev pub invariant-loop-inode : goal.invariant-loop-inode
invariant-loop-inode l = (j : ℕ) → ROOT < j → j < l.inode → stored_tree l.nodes j ≢ None
