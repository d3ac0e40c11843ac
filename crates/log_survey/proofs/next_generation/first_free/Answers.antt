use Rattle.std.proofs.Common.{sym, ◌∙◌, arith}
use Rattle.log_survey.proofs.GenerationLemmas.{sixth_first}
use Rattle.log_survey.proofs.next_generation.first_free.Goals as goal

pub returns-clause-first : goal.returns-clause-first
returns-clause-first c =
    sixth_first c.args.names c.args.generation (omega arith) (sym c.is_free.ensures ∙ c.if-is_free.false) (sym c.is_free-2.ensures ∙ c.if-is_free-2.false)
