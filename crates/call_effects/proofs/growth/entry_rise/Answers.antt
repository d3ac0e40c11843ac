use Rattle.std.proofs.Common.{sym, ◌∙◌, ap, ◌+◌, ◌-◌}
use Rattle.posix_calls.specs.Units.{directory_units}
use Rattle.posix_calls.specs.Walk.{entries_seen}
use Rattle.posix_calls.specs.Answers.{count_in}
use Rattle.posix_calls.proofs.Chain.{exits, gives_as, bind_look, bind_look_missing}
use Rattle.call_effects.proofs.Rise.{exits_of_node}
use Rattle.call_effects.proofs.growth.entry_rise.Goals as goal

pub returns-in_err-entries-clause-answer : goal.returns-in_err-entries-clause-answer
returns-in_err-entries-clause-answer g c = exits c.from_residual.ensures.1 (bind_look_missing _ entries_seen count_in _ c.in_err-entries.ensures.missing.0 (sym c.entry_count.ensures ∙ c.in_err-entries.ensures.missing.1))

pub returns-in_err-entries-clause-errors : goal.returns-in_err-entries-clause-errors
returns-in_err-entries-clause-errors g c = exits_of_node _ c.from_residual.ensures.1 (_, c.in_err-entries.ensures.missing.0)

pub returns-clause-answer : goal.returns-clause-answer
returns-clause-answer g c = bind_look _ entries_seen count_in _ (sym c.entry_count.ensures ∙ c.in_ok-entries.ensures.known) (λ s is. gives_as (ap (λ n. directory_units (n + 1) - directory_units n) is ∙ sym (c.saturating_sub.ensures ∙ ap (λ n. n - c.directory_units-2.result) c.directory_units.ensures.units ∙ ap (λ n. directory_units (c.in_ok-entries.field-0 + 1) - n) c.directory_units-2.ensures.units)))
