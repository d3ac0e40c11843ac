use Rattle.std.proofs.Common.{sym, ap, subst, ◌∙◌}
use Rattle.posix_calls.specs.Operations.{less_unused, tree_after}
use Rattle.plain_tree.specs.Plain.{stored_tree, held_of, HasNumber}
use Rattle.posix_calls.specs.declared.operation.Operation.TheVariants.{CloseFile}
use Rattle.plain_tree.proofs.Carried.{carried_as, carried_open, opened_low}
use Rattle.plain_tree.proofs.plain.apply.Goals as goal

pub returns-in-CloseFile-clause-ok : goal.returns-in-CloseFile-clause-ok
returns-in-CloseFile-clause-ok c =
    carried_as c.args.nodes.now c.drop_unused.new.self c.args.rows.now.items c.close_at.new.rows.items c.args.client c.args.new c.args.operation
    (CloseFile c.in-CloseFile.inode c.in-CloseFile.descriptor) c.in-CloseFile.is c.close_at.ensures.held
    (c.drop_unused.ensures.tree ∙ ap (λ rows. less_unused (held_of rows) (stored_tree c.args.nodes.now) c.in-CloseFile.inode) c.deref.ensures.value)

pub open_if-requires-clause-number : goal.open_if-requires-clause-number
open_if-requires-clause-number c = subst HasNumber (sym c.opens-opened.ensures) (opened_low c.args.new c.args.operation c.requires.doable.0)

pub returns-in_ok-apply_to_tree-in_default-clause-ok : goal.returns-in_ok-apply_to_tree-in_default-clause-ok
returns-in_ok-apply_to_tree-in_default-clause-ok c =
    carried_open c.args.nodes.now c.apply_to_tree.new.nodes c.args.rows.now.items c.open_if.new.rows.items c.args.client c.args.new c.args.operation c.opens-opened.result c.in_default.not-CloseFile c.opens-opened.ensures
    (c.in_ok-apply_to_tree-in_default.ensures.ok ∙ ap (λ rows. tree_after (held_of rows) c.args.new (stored_tree c.args.nodes.now) c.args.operation) c.deref-in_default.ensures.value)
    c.open_if.ensures.held
