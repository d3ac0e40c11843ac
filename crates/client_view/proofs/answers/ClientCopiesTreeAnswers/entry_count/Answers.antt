use Rattle.std.proofs.Common.{◌≡◌, Some, None, rules, sym}
use Rattle.client_view.specs.KnowledgeTables.{copy_at}
use Rattle.client_view.proofs.Views.{none_counted}
use Rattle.client_view.proofs.answers.ClientCopiesTreeAnswers.entry_count.Goals as goal

pub returns-in-Some-None : goal.returns-in-Some-None
returns-in-Some-None c =
    let none : Some None ≡ copy_at c.args.self.now.copies c.args.dir = search rules in
    none_counted _ (sym none)
