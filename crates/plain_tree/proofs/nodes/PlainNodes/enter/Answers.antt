use Rattle.std.proofs.Common.{◌≤◌, List, Option, refl, ap, sym, subst, ◌∙◌}
use Rattle.posix_calls.specs.Tree.{Node, names_of}
use Rattle.plain_tree.specs.Plain.{stored_tree, at_location}
use Rattle.posix_calls.specs.declared.limits.TheConstants.{MAX_NAMES}
use Rattle.plain_tree.proofs.Tallies.{counted_same, can_go, few_then, counted_entered}
use Rattle.plain_tree.proofs.nodes.PlainNodes.enter.Goals as goal

pub invariant_of-self : goal.invariant_of-self
invariant_of-self c = counted_same c.self.inside.counts.items c.make_counts.new.counts.items c.self.inside.nodes.items c.self.inside.nodes.items c.self.invariant c.make_counts.ensures.same refl

pub invariant_of-self-in_err-enter : goal.invariant_of-self-in_err-enter
invariant_of-self-in_err-enter c =
    counted_same c.self.inside.counts.items c.make_counts.new.counts.items c.self.inside.nodes.items c.enter.new.nodes.items c.self.invariant c.make_counts.ensures.same c.in_err-enter.ensures.err

pub name_went-requires : goal.name_went-requires
name_went-requires c =
    can_go c.self.inside.counts.items c.make_counts.new.counts.items c.self.inside.nodes.items c.args.at c.entry_in-before.result c.self.invariant c.make_counts.ensures.same c.requires.place
    (c.entry_in-before.ensures ∙ ap (λ (nodes : List (Option Node)). at_location (stored_tree nodes) c.args.at) c.deref.ensures.value)

pub name_came-requires-clause-few : goal.name_came-requires-clause-few
name_came-requires-clause-few c =
    few_then c.self.inside.counts.items c.make_counts.new.counts.items c.self.inside.nodes.items c.args.at c.entry_in-before.result c.self.invariant c.make_counts.ensures.same c.requires.place
    (c.entry_in-before.ensures ∙ ap (λ (nodes : List (Option Node)). at_location (stored_tree nodes) c.args.at) c.deref.ensures.value)
    c.name_went.new.counts.items c.name_went.ensures.fewer c.args.inode MAX_NAMES
    (subst (λ (nodes : List (Option Node)). names_of (stored_tree nodes) c.args.inode ≤ MAX_NAMES) (sym c.self.view_is) c.requires.few)

pub invariant_of-self-2 : goal.invariant_of-self-2
invariant_of-self-2 c =
    counted_entered c.self.inside.counts.items c.make_counts.new.counts.items c.self.inside.nodes.items c.args.at c.entry_in-before.result c.self.invariant c.make_counts.ensures.same c.requires.place
    (c.entry_in-before.ensures ∙ ap (λ (nodes : List (Option Node)). at_location (stored_tree nodes) c.args.at) c.deref.ensures.value)
    c.name_went.new.counts.items c.name_went.ensures.fewer c.name_came.new.counts.items c.enter.new.nodes.items c.args.inode c.name_came.ensures c.in_ok-enter.ensures.ok
