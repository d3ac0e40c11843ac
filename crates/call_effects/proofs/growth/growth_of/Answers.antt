use Rattle.std.proofs.Common.{sym}
use Rattle.posix_calls.proofs.Chain.{exits, gives_as, bind_gives, bind_stops}
use Rattle.call_effects.proofs.Rise.{exits_of_node}
use Rattle.call_effects.proofs.growth.growth_of.Goals as goal

pub returns-in_err-units-clause-answer : goal.returns-in_err-units-clause-answer
returns-in_err-units-clause-answer g c = exits c.from_residual.ensures.1 (bind_stops _ c.in_err-units.ensures.answer)

pub returns-in_err-units-clause-errors : goal.returns-in_err-units-clause-errors
returns-in_err-units-clause-errors g c = exits_of_node _ c.from_residual.ensures.1 c.in_err-units.ensures.errors

pub returns-clause-answer : goal.returns-clause-answer
returns-clause-answer g c = bind_gives _ c.in_ok-units.ensures.answer (gives_as (sym c.min.ensures))
