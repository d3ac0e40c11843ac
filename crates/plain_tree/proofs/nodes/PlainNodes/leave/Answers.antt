use Rattle.std.proofs.Common.{List, Option, refl, ap, ◌∙◌}
use Rattle.posix_calls.specs.Tree.{Node}
use Rattle.plain_tree.specs.Plain.{stored_tree, at_location}
use Rattle.plain_tree.proofs.Tallies.{can_go, counted_left}
use Rattle.plain_tree.proofs.nodes.PlainNodes.leave.Goals as goal

pub name_went-requires : goal.name_went-requires
name_went-requires c =
    can_go c.self.inside.counts.items c.self.inside.counts.items c.self.inside.nodes.items c.args.at.now c.entry_in-before.result c.self.invariant refl c.requires.place
    (c.entry_in-before.ensures ∙ ap (λ (nodes : List (Option Node)). at_location (stored_tree nodes) c.args.at.now) c.deref.ensures.value)

pub invariant_of-self : goal.invariant_of-self
invariant_of-self c =
    counted_left c.self.inside.counts.items c.self.inside.counts.items c.self.inside.nodes.items c.args.at.now c.entry_in-before.result c.self.invariant refl c.requires.place
    (c.entry_in-before.ensures ∙ ap (λ (nodes : List (Option Node)). at_location (stored_tree nodes) c.args.at.now) c.deref.ensures.value)
    c.name_went.new.counts.items c.name_went.ensures.fewer c.leave.new.nodes.items c.leave.ensures.tree
