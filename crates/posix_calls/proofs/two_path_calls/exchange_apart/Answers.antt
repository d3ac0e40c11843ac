use Rattle.std.proofs.Common.{◌∙◌, Some}
use Rattle.posix_calls.proofs.Chain.{exits, gives, passes, fails, or_same}
use Rattle.posix_calls.proofs.Walks.{bind_place, bind_place_stops}
use Rattle.posix_calls.proofs.two_path_calls.exchange_apart.Goals as goal

pub returns-in_err-one : goal.returns-in_err-one
returns-in_err-one g c = record { answer = λ walked seen. exits c.from_residual.ensures.1 (bind_place_stops (Some c.args.nodes.other) c.args.first_path.now _ c.in_err-one.ensures.answer) }

pub returns-in_err-refuse_if : goal.returns-in_err-refuse_if
returns-in_err-refuse_if g c = record { answer = λ walked seen. exits c.from_residual-in_err-refuse_if.ensures.1 (bind_place (Some c.args.nodes.other) c.args.first_path.now _ c.in_ok-one.ensures.answer (λ one_walked one_seen. fails _ _ c.in_err-refuse_if.ensures.refused.0 (or_same one_seen seen ∙ c.in_err-refuse_if.ensures.refused.1))) }

pub returns : goal.returns
returns g c = record { answer = λ walked seen. rw (c.in_ok-first.ensures.location, c.in_ok-second.ensures.location) (bind_place (Some c.args.nodes.other) c.args.first_path.now _ c.in_ok-one.ensures.answer (λ one_walked one_seen. passes _ _ (or_same one_seen seen ∙ c.in_ok-refuse_if.ensures.clear) gives)) }
