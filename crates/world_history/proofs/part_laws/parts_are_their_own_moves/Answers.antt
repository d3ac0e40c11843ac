use Rattle.world_history.proofs.Parts.{client_is, kernel_is}
use Rattle.world_history.proofs.part_laws.parts_are_their_own_moves.Goals as goal

pub returns-clause-kernel : goal.returns-clause-kernel
returns-clause-kernel r s h = kernel_is s h

pub returns-clause-client : goal.returns-clause-client
returns-clause-client r s c h = client_is s c h
