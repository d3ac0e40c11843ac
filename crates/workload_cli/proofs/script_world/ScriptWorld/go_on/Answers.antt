use Rattle.std.proofs.Common.{inr, refl}
use Rattle.workload_cli.proofs.script_world.ScriptWorld.go_on.Goals as goal

pub returns-then-has_stopped-clause-answer : goal.returns-then-has_stopped-clause-answer
returns-then-has_stopped-clause-answer g c = inr (record { may = c.has_stopped.ensures c.if-has_stopped.true; stopped = c.requires.stopped; fills = refl }, refl)
