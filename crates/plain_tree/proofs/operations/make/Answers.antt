use Rattle.std.proofs.Common.{◌≤◌, subst, sym, ap, ◌∙◌}
use Rattle.posix_calls.specs.Tree.{Tree, set_node, names_of}
use Rattle.posix_calls.specs.WellFormed.{IsBare}
use Rattle.posix_calls.specs.Operations.{with_entry}
use Rattle.plain_tree.specs.Plain.{stored_tree}
use Rattle.posix_calls.specs.declared.limits.TheConstants.{MAX_NAMES}
use Rattle.plain_tree.proofs.Tallies.{bare_entered}
use Rattle.plain_tree.proofs.Made.{named_after}
use Rattle.plain_tree.proofs.operations.make.Goals as goal

pub enter-requires-clause-few : goal.enter-requires-clause-few
enter-requires-clause-few c = subst (λ (t : Tree). names_of t c.args.inode ≤ MAX_NAMES) (sym c.make_room.ensures.tree) c.requires.few

pub put-requires-clause-before : goal.put-requires-clause-before
put-requires-clause-before c =
    subst (λ (t : Tree). IsBare (t c.args.inode)) (sym (c.in_ok-enter.ensures.ok ∙ ap (λ (t : Tree). with_entry t c.args.at c.args.inode) c.make_room.ensures.tree))
    (bare_entered (stored_tree c.args.nodes.now) c.args.at c.args.inode c.args.inode (λ same. c.requires.apart (sym same)) c.requires.free)

pub returns-clause-ok : goal.returns-clause-ok
returns-clause-ok c =
    c.put.ensures.tree
    ∙ ap (λ (t : Tree). set_node t c.args.inode c.args.node) (c.in_ok-enter.ensures.ok ∙ ap (λ (t : Tree). with_entry t c.args.at c.args.inode) c.make_room.ensures.tree)
    ∙ named_after (stored_tree c.args.nodes.now) c.args.at c.args.inode c.args.node c.requires.apart
