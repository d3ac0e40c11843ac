use Rattle.std.proofs.Common.{Result, Ok, Err, IfOk}
use Rattle.recovery.specs.Assembly.{AreOpenedSeats}
use Rattle.recovery.proofs.OpenedSeats.{any_refusal, unread}
use Rattle.recovery.proofs.assembly.seat_clients.Goals as goal

of_table : {A E T : Type 0} (P : T → A → Type 0) (t : T) (r : Result A E) → IfOk r (P t) → IfOk r (λ x. (u : T) × P u x)
of_table P t (Ok x) h = (t, h)
of_table P t (Err e) h = tt

pub returns-in_err-leases-clause-back : goal.returns-in_err-leases-clause-back
returns-in_err-leases-clause-back g c = any_refusal c.from_residual.result (unread g.M.Media c.args.regions.now.items)

pub returns-clause-opened : goal.returns-clause-opened
returns-clause-opened g c = of_table (λ table seats. AreOpenedSeats g.M.Media table c.args.marks.now 0 c.args.regions.now.items seats.items) c.in_ok-leases.field-0.leases c.seat_all.result c.seat_all.ensures.opened
