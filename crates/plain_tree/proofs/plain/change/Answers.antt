use Rattle.std.proofs.Common.{◌≡◌, inl, inr, refl, subst, List, Option}
use Rattle.posix_calls.specs.Tree.{Node}
use Rattle.posix_calls.specs.Operations.{makes}
use Rattle.posix_calls.specs.Exact.{IsLowest}
use Rattle.plain_tree.specs.Plain.{stored_tree}
use Rattle.std.specs.Prelude.{true}
use Rattle.plain_tree.proofs.plain.change.Goals as goal

pub returns-in-Ok-clause-done : goal.returns-in-Ok-clause-done
returns-in-Ok-clause-done c =
    inl (c.in-Some.inode, subst (λ (nodes : List (Option Node)). makes c.args.operation ≡ true → IsLowest (stored_tree nodes) c.in-Some.inode) c.as_slice.ensures c.in-Some.ensures, c.requires.reply, c.in-Ok.ensures.ok)

pub returns-in-Err-clause-done : goal.returns-in-Err-clause-done
returns-in-Err-clause-done c = inr (inl (refl, c.in-Err.ensures.memory), c.in-Err.ensures.err)
