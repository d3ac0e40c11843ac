use Rattle.recovery.proofs.OpenedSeats.{two_last}
use Rattle.recovery.proofs.assembly.seat_last.Goals as goal

pub returns-in-Ok-clause-seated : goal.returns-in-Ok-clause-seated
returns-in-Ok-clause-seated g c =
    let odd = c.pop_last-odd in
    let even = c.pop_last-even in
    record {
      even = even.result;
      odd = odd.result;
      taken = two_last even.new.items.items odd.new.items.items c.args.regions.now.items even.result odd.result odd.ensures.taken even.ensures.taken;
      seated = c.in-Ok.ensures.opened;
    }

pub returns-in-Err-clause-refused : goal.returns-in-Err-clause-refused
returns-in-Err-clause-refused g c =
    let odd = c.pop_last-odd in
    let even = c.pop_last-even in
    let e = c.in-Err.ensures in
    record {
      front = even.new.items.items;
      even = even.result;
      odd = odd.result;
      even_back = c.in-Err.even;
      odd_back = c.in-Err.odd;
      was = two_last even.new.items.items odd.new.items.items c.args.regions.now.items even.result odd.result odd.ensures.taken even.ensures.taken;
      is = two_last even.new.items.items c.put_last.new.items.items c.put_last-in-Err.new.items.items c.in-Err.even c.in-Err.odd c.put_last-in-Err.ensures.items c.put_last.ensures.items;
      even_read = e.even_back;
      odd_read = e.odd_back;
      fault = e.fault;
      only = e.only;
    }
