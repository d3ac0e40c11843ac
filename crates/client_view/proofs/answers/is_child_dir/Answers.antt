use Rattle.std.proofs.Common.{◌≡◌, true, Some, None, ap, sym, ◌∙◌, subst}
use Rattle.std.specs.Prelude.{unwrap_or}
use Rattle.client_plan.specs.file_graph.declared.effect.Kind.{Kind}
use Rattle.client_plan.specs.call_effects.Knowledge.{lists_as}
use Rattle.client_view.specs.KnowledgeTables.{copy_at}
use Rattle.client_view.proofs.ListedKinds.{dir_by_entry}
use Rattle.client_view.proofs.answers.is_child_dir.Goals as goal

pub returns-in-None-Directory : goal.returns-in-None-Directory
returns-in-None-Directory c = λ is_dir same.
    let named = subst (λ (k : Kind). lists_as c.args.inode k (unwrap_or (copy_at c.args.slots.now c.args.dir) None) ≡ true) c.in-None-Directory.is-1 c.requires.listed in
    dir_by_entry c.args.slots.now c.args.dir c.args.inode (sym c.is_inode.ensures ∙ c.if-is_inode.true) (sym c.in-None-Directory.ensures) named ∙ ap Some same
