use Rattle.std.proofs.Common.{sym, ◌∙◌}
use Rattle.strata_threads.proofs.Seating.{ended, none_left}
use Rattle.strata_threads.proofs.thread_set.seat_clients.Goals as goal

pub returns : goal.returns
returns g c =
    let i = c.loop-client.invariant in
    i.put ∙ ended c.loop-client.yielded _ c.args.clients.items i.split (none_left _ (sym i.long ∙ c.in-None.ensures.steps.0))
