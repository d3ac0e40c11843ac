use Rattle.std.proofs.Common.{arith}
use Rattle.strata_threads.proofs.thread_set.share_out.Goals as goal

pub open-requires : goal.open-requires
open-requires g c = record { few = omega (arith, c.requires.can.0, c.len.ensures, c.args.clients.ok.0) }

pub seat_clients-requires-clause-idle : goal.seat_clients-requires-clause-idle
seat_clients-requires-clause-idle g c = c.requires.can.1
