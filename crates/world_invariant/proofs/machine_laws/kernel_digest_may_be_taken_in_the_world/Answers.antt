use Rattle.world_invariant.proofs.Machines.{sealed_stands}
use Rattle.world_invariant.proofs.machine_laws.kernel_digest_may_be_taken_in_the_world.Goals as goal

pub returns-clause-digest : goal.returns-clause-digest
returns-clause-digest r w accepted c first rest can = record { client = can.client; some = can.some; split = can.split }

pub returns-clause-sealed : goal.returns-clause-sealed
returns-clause-sealed r w c h is_c = sealed_stands w.kernel.shared (w.kernel.accounts c) c (w.clients c) (h.stands c is_c)
