use Rattle.std.proofs.Common.{ap}
use Rattle.event_steps.proofs.system.System.life.Goals as goal

pub returns-in-Some-clause-there : goal.returns-in-Some-clause-there
returns-in-Some-clause-there g c = λ _. (c.in-Some.seat.now, c.in-Some.ensures.there.1, ap (λ s. s.life) c.seat-in-Some.view_is)
