use Rattle.std.proofs.Common.{◌≡◌, List, Option, Some, None, rules, ap, sym, ◌∙◌}
use Rattle.client_plan.specs.call_effects.NodeView.{NodeView}
use Rattle.client_view.specs.KnowledgeTables.{Held, copy_at, known_dir_in}
use Rattle.client_view.proofs.Views.{none_entered}
use Rattle.client_view.proofs.answers.ClientCopiesTreeAnswers.entry.Goals as goal

pub returns-in-Some-Some-clause-kind : goal.returns-in-Some-Some-clause-kind
returns-in-Some-Some-clause-kind c = λ e is_dir is told.
    let same = c.deref-in-Some-Some.ensures.value ∙ ap (λ (h : Held). h.copies) c.self.view_is in
    ap (λ (cs : List (Option (Option NodeView))). known_dir_in cs e.inode) (sym same) ∙ c.child_in.ensures.kind e is_dir (cc is) told

pub returns-in-Some-None-clause-inode : goal.returns-in-Some-None-clause-inode
returns-in-Some-None-clause-inode c =
    let none : Some None ≡ copy_at c.args.self.now.copies c.args.dir = search rules in
    none_entered c.args.name.now _ (sym none)
