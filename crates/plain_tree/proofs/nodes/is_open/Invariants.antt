use Rattle.std.proofs.Common.{◌≡◌, ◌-◌, false}
use Rattle.posix_calls.specs.Tree.{any_up_to, refers_to}
use Rattle.plain_tree.specs.Plain.{held_of}
use Rattle.posix_calls.specs.declared.limits.TheConstants.{MAX_DESCRIPTORS}
use Rattle.plain_tree.proofs.nodes.is_open.Given as goal

abbrev pub invariant-loop-client : goal.invariant-loop-client
invariant-loop-client l = any_up_to l.client (λ c. any_up_to MAX_DESCRIPTORS (λ n. refers_to l.inode (held_of l.rows c (n - 1)))) ≡ false
