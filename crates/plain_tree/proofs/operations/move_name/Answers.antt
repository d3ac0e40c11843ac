use Rattle.std.proofs.Common.{◌≤◌, subst, sym, ap, ◌∙◌}
use Rattle.posix_calls.specs.Tree.{Tree, names_of}
use Rattle.posix_calls.specs.Operations.{with_entry, without_entry}
use Rattle.plain_tree.specs.Plain.{stored_tree, held_of, less_put_out, IsBareReplaced}
use Rattle.posix_calls.specs.declared.limits.TheConstants.{MAX_NAMES}
use Rattle.plain_tree.proofs.Tallies.{bare_put_out}
use Rattle.plain_tree.proofs.Moves.{moved}
use Rattle.plain_tree.proofs.operations.move_name.Goals as goal

pub enter-requires-clause-few : goal.enter-requires-clause-few
enter-requires-clause-few c = subst (λ (t : Tree). names_of t c.args.to.inode ≤ MAX_NAMES) (sym c.make_room.ensures.tree) c.requires.few

pub put_out-requires : goal.put_out-requires
put_out-requires c =
    subst (λ (t : Tree). IsBareReplaced t c.args.to.replaced) (sym (c.in_ok-enter.ensures.ok ∙ ap (λ (t : Tree). with_entry t c.args.to.at c.args.to.inode) c.make_room.ensures.tree))
    (bare_put_out (stored_tree c.args.nodes.now) c.args.to.at c.args.to.inode c.args.to.replaced c.requires.movable.1)

pub returns-clause-ok : goal.returns-clause-ok
returns-clause-ok c =
    c.leave.ensures.tree
    ∙ ap (λ (t : Tree). without_entry t c.args.from.now)
    (c.put_out.ensures.tree
    ∙ ap (λ (t : Tree). less_put_out (held_of c.args.rows.now) t c.args.to.replaced) (c.in_ok-enter.ensures.ok ∙ ap (λ (t : Tree). with_entry t c.args.to.at c.args.to.inode) c.make_room.ensures.tree))
    ∙ moved (held_of c.args.rows.now) (stored_tree c.args.nodes.now) c.args.from.now c.args.to.at c.args.to.inode c.args.to.replaced c.requires.movable
