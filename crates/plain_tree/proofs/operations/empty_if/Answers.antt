use Rattle.std.proofs.Common.{subst, sym}
use Rattle.posix_calls.specs.Tree.{Tree}
use Rattle.posix_calls.specs.WellFormed.{IsBare}
use Rattle.plain_tree.proofs.operations.empty_if.Goals as goal

pub put-requires-clause-before : goal.put-requires-clause-before
put-requires-clause-before c = subst (λ (t : Tree). IsBare (t c.args.inode)) (sym c.make_room.ensures.tree) c.requires
