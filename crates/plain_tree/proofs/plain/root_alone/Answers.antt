use Rattle.std.proofs.Common.{sym, subst, ap, ◌∙◌, refl}
use Rattle.std.specs.Prelude.{List, Option, Some}
use Rattle.std.specs.FinMap as fin
use Rattle.posix_calls.specs.Tree.{Node, Tree, Dir, set_node}
use Rattle.posix_calls.specs.WellFormed.{IsBare}
use Rattle.plain_tree.specs.Plain.{stored_tree}
use Rattle.posix_calls.specs.declared.limits.TheConstants.{ROOT}
use Rattle.plain_tree.proofs.plain.root_alone.Goals as goal

pub put-requires-clause-before : goal.put-requires-clause-before
put-requires-clause-before c = subst (λ (t : Tree). IsBare (t ROOT)) (sym (c.make_room.ensures.tree ∙ ap (λ (nodes : List (Option Node)). stored_tree nodes) c.new-nodes.ensures)) refl

pub returns : goal.returns
returns c =
    c.put.ensures.tree
    ∙ ap (set_node (stored_tree c.make_room.new.self) ROOT) c.directory.ensures
    ∙ ap (λ (t : Tree). set_node t ROOT (Some (Dir fin.empty))) (c.make_room.ensures.tree ∙ ap (λ (nodes : List (Option Node)). stored_tree nodes) c.new-nodes.ensures)
