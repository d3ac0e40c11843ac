use Rattle.std.proofs.Common.{length, ap, arith, subst, sym}
use Rattle.strata_threads.specs.SharedClients.{HaveTable}
use Rattle.call_driver.specs.event_steps.Sound.{AreOfTable}
use Rattle.thread_runs.proofs.SharedTable.{AllShareTable, one_taken}
use Rattle.thread_runs.proofs.file_system.clients_of.Goals as goal

pub loop-seat-init : goal.loop-seat-init
loop-seat-init c =
    let seats = c.requires.seats in
    let gives = c.into_iter-seat-iterator.ensures.into_iter_gives in
    record {
      table = (
        seats.table,
        subst (AreOfTable seats.table) (sym gives.0) seats.shared,
        subst (HaveTable seats.table) (sym c.requires.empty) tt,
      );
      count = omega (arith, gives.1, seats.eight, ap length c.requires.empty, c.args.room.ok.0, c.args.seats.ok.0);
      room = omega (arith, gives.1, seats.eight, c.requires.room, ap length c.requires.empty, c.args.room.ok.0, c.args.seats.ok.0);
    }

pub loop-seat-preserved : goal.loop-seat-preserved
loop-seat-preserved c =
    let i = c.loop-seat.invariant in
    let next = c.in-Some.ensures.steps in
    record {
      table = subst (AllShareTable _) (sym c.push_reserved.ensures.items) (one_taken _ _ c.in-Some.seat c.loop-seat.clients.items c.into_parts-client.result.0 next.0 c.into_parts-client.ensures.client i.table);
      count = omega (arith, next.1, i.count, c.push_reserved.ensures.len);
      room = omega (arith, next.1, i.room, c.push_reserved.ensures.len, c.push_reserved.ensures.capacity);
    }

pub returns : goal.returns
returns c =
    let i = c.loop-seat.invariant in
    record {
      table = (i.table.0, i.table.2);
      eight = omega (arith, i.count, c.in-None.ensures.steps.0, c.loop-seat.clients.ok.0);
    }
