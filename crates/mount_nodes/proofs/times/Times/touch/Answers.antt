use Rattle.mount_nodes.proofs.StampLemmas.{touch_runs, touch_is_touched}
use Rattle.mount_nodes.proofs.times.Times.touch.Goals as goal

pub returns-clause-runs : goal.returns-clause-runs
returns-clause-runs c =
    let put = rw (c.touched_stamp.ensures, c.stamp-was.ensures) at c.put.ensures in
    touch_runs c.args.self.now c.take_next-time.new.self c.put.new.self c.take_next-time.result c.args.id c.take_next-time.ensures.next c.take_next-time.ensures.rises c.take_next-time.ensures.noted put

pub returns-clause-touched : goal.returns-clause-touched
returns-clause-touched c =
    let put = rw (c.touched_stamp.ensures, c.stamp-was.ensures) at c.put.ensures in
    touch_is_touched c.args.self.now c.take_next-time.new.self c.put.new.self c.take_next-time.result c.args.id c.take_next-time.ensures.next c.take_next-time.ensures.rises c.take_next-time.ensures.noted put
