use Rattle.std.proofs.Common.{◌∙◌, inr, refl, sym}
use Rattle.std.specs.Prelude.{Ok}
use Rattle.workload_cli.proofs.shell.answer_digest.Goals as goal

pub returns-in-Ok : goal.returns-in-Ok
returns-in-Ok g c = inr (sym c.is_pending.ensures ∙ c.if-is_pending.false, sym c.has_failed.ensures ∙ c.if-has_failed.false, Ok c.in-Ok.count, c.in-Ok.ensures.cleared, refl)
