use Rattle.std.proofs.Common.{ap}
use Rattle.call_effects.specs.file_graph.Graph.{directory_in}
use Rattle.world_invariant.proofs.PartsStand.{stands_same, stands_less, stands_account, sealed_same, sealed_less, sealed_account, sealed_leases}
use Rattle.world_invariant.proofs.machine_laws.parts_stand_where_they_write.Goals as goal

pub returns-clause-client : goal.returns-clause-client
returns-clause-client c = stands_same

pub returns-clause-client_less : goal.returns-clause-client_less
returns-clause-client_less c = λ i g h a d p file. stands_less i g h a d p (ap directory_in file.is)

pub returns-clause-sealed : goal.returns-clause-sealed
returns-clause-sealed c = sealed_same

pub returns-clause-sealed_less : goal.returns-clause-sealed_less
returns-clause-sealed_less c = λ i g h a s file. sealed_less i g h a s (ap directory_in file.is)

pub returns-clause-client_account : goal.returns-clause-client_account
returns-clause-client_account c = stands_account

pub returns-clause-sealed_account : goal.returns-clause-sealed_account
returns-clause-sealed_account c = sealed_account

pub returns-clause-sealed_leases : goal.returns-clause-sealed_leases
returns-clause-sealed_leases c = sealed_leases
