use Rattle.inode_plan.proofs.Runs.{RunTo}
use Rattle.inode_plan.proofs.directory_places.runs_of.Given as goal

abbrev pub invariant-each : goal.invariant-each
invariant-each l = RunTo l.places l.index l.runs.items
