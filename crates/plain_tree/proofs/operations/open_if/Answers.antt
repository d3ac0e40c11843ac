use Rattle.std.proofs.Common.{sym, ap, ◌∙◌}
use Rattle.plain_tree.specs.Plain.{held_of, with_opened}
use Rattle.plain_tree.proofs.operations.open_if.Goals as goal

pub returns-in-Some-clause-held : goal.returns-in-Some-clause-held
returns-in-Some-clause-held c = c.open_at.ensures.held ∙ ap (with_opened (held_of c.args.rows.now.items) c.args.client) (sym c.in-Some.is)
