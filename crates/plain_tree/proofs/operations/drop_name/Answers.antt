use Rattle.std.proofs.Common.{subst, sym, ap, ◌∙◌}
use Rattle.posix_calls.specs.Tree.{Tree}
use Rattle.posix_calls.specs.WellFormed.{IsBare}
use Rattle.posix_calls.specs.Operations.{without_entry, less_unused}
use Rattle.plain_tree.specs.Plain.{stored_tree, held_of}
use Rattle.plain_tree.proofs.Tallies.{bare_left}
use Rattle.plain_tree.proofs.operations.drop_name.Goals as goal

pub drop_unused-requires : goal.drop_unused-requires
drop_unused-requires c =
    subst (λ (t : Tree). IsBare (t c.args.inode)) (sym (c.leave.ensures.tree ∙ ap (λ (t : Tree). without_entry t c.args.at.now) c.make_room.ensures.tree)) (bare_left (stored_tree c.args.nodes.now) c.args.at.now c.args.inode c.requires.bare)

pub returns-clause-ok : goal.returns-clause-ok
returns-clause-ok c =
    c.drop_unused.ensures.tree
    ∙ ap (λ (t : Tree). less_unused (held_of c.args.rows.now) t c.args.inode) (c.leave.ensures.tree ∙ ap (λ (t : Tree). without_entry t c.args.at.now) c.make_room.ensures.tree)
