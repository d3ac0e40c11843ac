use Rattle.std.proofs.Common.{sym, ◌∙◌, ap}
use Rattle.posix_calls.specs.Walk.{size_seen}
use Rattle.posix_calls.proofs.Chain.{exits, gives_as, bind_look, bind_look_missing}
use Rattle.call_effects.specs.Records.{file_rise}
use Rattle.call_effects.proofs.Rise.{exits_of_node}
use Rattle.call_effects.proofs.growth.resize_rise.Goals as goal

pub returns-in_err-old-clause-answer : goal.returns-in_err-old-clause-answer
returns-in_err-old-clause-answer g c = exits c.from_residual.ensures.1 (bind_look_missing _ size_seen size_seen _ c.in_err-old.ensures.missing.0 (sym c.file_size.ensures ∙ c.in_err-old.ensures.missing.1))

pub returns-in_err-old-clause-errors : goal.returns-in_err-old-clause-errors
returns-in_err-old-clause-errors g c = exits_of_node _ c.from_residual.ensures.1 (_, c.in_err-old.ensures.missing.0)

pub returns-clause-answer : goal.returns-clause-answer
returns-clause-answer g c = bind_look _ size_seen size_seen _ (sym c.file_size.ensures ∙ c.in_ok-old.ensures.known) (λ s is. gives_as (ap (λ n. file_rise n c.args.len) is ∙ sym c.file_rise.ensures))
