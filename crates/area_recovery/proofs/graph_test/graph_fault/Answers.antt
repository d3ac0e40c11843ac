use Rattle.std.proofs.Common.{subst}
use Rattle.area_recovery.specs.GraphTests.{FindsNoDamage}
use Rattle.area_recovery.proofs.Faults.{of_reader}
use Rattle.area_recovery.proofs.graph_test.graph_fault.Goals as goal

pub area_fault-requires : goal.area_fault-requires
area_fault-requires c = of_reader c.in-Nodes.error (λ _ _. ⊥) (subst FindsNoDamage c.in-Nodes.is c.requires)
