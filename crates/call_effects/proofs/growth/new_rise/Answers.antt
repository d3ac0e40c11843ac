use Rattle.posix_calls.proofs.Chain.{exits, gives, bind_gives, bind_stops}
use Rattle.call_effects.proofs.Rise.{exits_of_node}
use Rattle.call_effects.proofs.growth.new_rise.Goals as goal

pub returns-in_err-rise-clause-answer : goal.returns-in_err-rise-clause-answer
returns-in_err-rise-clause-answer g c = exits c.from_residual.ensures.1 (bind_stops _ c.in_err-rise.ensures.answer)

pub returns-in_err-rise-clause-errors : goal.returns-in_err-rise-clause-errors
returns-in_err-rise-clause-errors g c = exits_of_node _ c.from_residual.ensures.1 c.in_err-rise.ensures.errors

pub returns-clause-answer : goal.returns-clause-answer
returns-clause-answer g c = bind_gives _ c.in_ok-rise.ensures.answer gives
