use Rattle.world_invariant.proofs.DigestedParts.{digested_stands}
use Rattle.world_invariant.proofs.Machines.{sealed_stands, digested_sealed, digested_beside}
use Rattle.world_invariant.proofs.machine_laws.digest_keeps_what_is_sealed.Goals as goal

pub returns-clause-sealed : goal.returns-clause-sealed
returns-clause-sealed c = sealed_stands

pub returns-clause-own : goal.returns-clause-own
returns-clause-own c = λ m d s first rest r t can. digested_sealed m r d s first rest t can

pub returns-clause-beside : goal.returns-clause-beside
returns-clause-beside c = λ m d s first rest r t can. digested_beside m r d s first rest t can

pub returns-clause-client : goal.returns-clause-client
returns-clause-client c = λ m d p first rest r s can. digested_stands m.kernel.shared (m.kernel.accounts d) d p first rest s can.split
