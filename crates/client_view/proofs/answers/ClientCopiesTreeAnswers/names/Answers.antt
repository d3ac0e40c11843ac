use Rattle.std.proofs.Common.{◌≡◌, Some, None, rules, ap, sym, ◌∙◌}
use Rattle.client_view.specs.KnowledgeTables.{copy_at}
use Rattle.client_view.proofs.Views.{none_listed}
use Rattle.client_view.proofs.answers.ClientCopiesTreeAnswers.names.Goals as goal

pub returns-in-Some-None-clause-names : goal.returns-in-Some-None-clause-names
returns-in-Some-None-clause-names c =
    let none : Some None ≡ copy_at c.args.self.now.copies c.args.dir = search rules in
    ap Some (c.from_vec.ensures ∙ c.new.ensures.items) ∙ none_listed _ (sym none)
