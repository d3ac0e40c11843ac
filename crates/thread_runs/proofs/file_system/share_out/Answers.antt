use Rattle.std.proofs.Common.{length, ap, arith}
use Rattle.std.proofs.lemmas.List.{length-map}
use Rattle.thread_runs.proofs.file_system.share_out.Goals as goal

pub returns-in-Ok : goal.returns-in-Ok
returns-in-Ok c = omega (arith, length-map c.in-Ok.set.clients.items (λ x. x.client), ap length c.in-Ok.ensures.clients, c.clients_of.ensures.eight)
