use Rattle.std.proofs.Common.{sym, ◌∙◌, ap, nat_lt}
use Rattle.posix_calls.specs.Walk.{entries_seen}
use Rattle.posix_calls.specs.Answers.{count_in}
use Rattle.posix_calls.proofs.Chain.{exits, bind_look, bind_look_missing}
use Rattle.posix_calls.proofs.Targets.{refused_told}
use Rattle.posix_calls.proofs.walk.refuse_entries.Goals as goal

pub returns-in_err-entries-clause-answer : goal.returns-in_err-entries-clause-answer
returns-in_err-entries-clause-answer g c = exits c.from_residual.ensures.1 (bind_look_missing _ entries_seen count_in _ c.in_err-entries.ensures.missing.0 (sym c.entry_count.ensures ∙ c.in_err-entries.ensures.missing.1))

pub returns-clause-answer : goal.returns-clause-answer
returns-clause-answer g c = bind_look _ entries_seen count_in _ (sym c.entry_count.ensures ∙ c.in_ok-entries.ensures.known) (λ s is. refused_told _ (ap (nat_lt 0) is) c.refuse_if.result c.refuse_if.ensures.clear c.refuse_if.ensures.refused)
