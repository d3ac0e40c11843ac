use Rattle.system_laws.proofs.IdleSystems.{idle_stands}
use Rattle.system_laws.proofs.openings.idle_system_stands_for_a_world.Goals as goal

pub returns : goal.returns
returns g c = λ v shared_marks idle. idle_stands g.M.Media v shared_marks idle
