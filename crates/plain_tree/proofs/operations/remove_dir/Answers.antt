use Rattle.std.proofs.Common.{None, subst, sym, ap, ◌∙◌}
use Rattle.posix_calls.specs.Tree.{Tree, set_node}
use Rattle.posix_calls.specs.WellFormed.{IsBare}
use Rattle.posix_calls.specs.Operations.{without_entry}
use Rattle.plain_tree.specs.Plain.{stored_tree}
use Rattle.plain_tree.proofs.Tallies.{bare_left}
use Rattle.plain_tree.proofs.operations.remove_dir.Goals as goal

pub clear-requires : goal.clear-requires
clear-requires c =
    subst (λ (t : Tree). IsBare (t c.args.inode)) (sym (c.leave.ensures.tree ∙ ap (λ (t : Tree). without_entry t c.args.at.now) c.make_room.ensures.tree)) (bare_left (stored_tree c.args.nodes.now) c.args.at.now c.args.inode c.requires.bare)

pub returns-clause-ok : goal.returns-clause-ok
returns-clause-ok c =
    c.clear.ensures.tree
    ∙ ap (λ (t : Tree). set_node t c.args.inode None) (c.leave.ensures.tree ∙ ap (λ (t : Tree). without_entry t c.args.at.now) c.make_room.ensures.tree)
