use Rattle.std.proofs.Common.{List, Option, subst, sym}
use Rattle.posix_calls.specs.Tree.{Node}
use Rattle.plain_tree.specs.Plain.{stored_tree, AreExchangeable}
use Rattle.plain_tree.proofs.Tallies.{counted_exchanged}
use Rattle.plain_tree.proofs.nodes.PlainNodes.exchange.Goals as goal

pub invariant_of-self : goal.invariant_of-self
invariant_of-self c =
    counted_exchanged c.exchange.result c.self.inside.counts.items c.self.inside.nodes.items c.exchange.new.nodes.items c.args.first c.args.second c.args.inode c.args.other c.self.invariant c.requires.first_place c.requires.second_place
    (subst (λ (nodes : List (Option Node)). AreExchangeable (stored_tree nodes) c.args.first c.args.second c.args.inode c.args.other) (sym c.self.view_is) c.requires.exchangeable) c.exchange.ensures.ok c.exchange.ensures.err
