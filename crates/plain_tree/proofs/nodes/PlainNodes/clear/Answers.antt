use Rattle.std.proofs.Common.{List, Option, None, refl, subst, sym}
use Rattle.posix_calls.specs.Tree.{Node}
use Rattle.posix_calls.specs.WellFormed.{IsBare}
use Rattle.plain_tree.specs.Plain.{stored_tree}
use Rattle.plain_tree.proofs.Tallies.{counted_set}
use Rattle.plain_tree.proofs.nodes.PlainNodes.clear.Goals as goal

pub invariant_of-self : goal.invariant_of-self
invariant_of-self c =
    counted_set c.self.inside.counts.items c.self.inside.nodes.items c.clear.new.nodes.items c.args.inode None c.self.invariant c.clear.ensures.tree
    (subst (λ (nodes : List (Option Node)). IsBare (stored_tree nodes c.args.inode)) (sym c.self.view_is) c.requires) refl
