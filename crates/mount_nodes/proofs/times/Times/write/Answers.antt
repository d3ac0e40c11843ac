use Rattle.mount_nodes.proofs.StampLemmas.{write_runs, write_is_written}
use Rattle.mount_nodes.proofs.times.Times.write.Goals as goal

pub returns-clause-runs : goal.returns-clause-runs
returns-clause-runs c =
    let put = rw (c.written_stamp.ensures, c.stamp-was.ensures) at c.put.ensures in
    write_runs c.args.self.now c.take_next-time.new.self c.put.new.self c.take_next-time.result c.args.id c.take_next-time.ensures.next c.take_next-time.ensures.rises c.take_next-time.ensures.noted put

pub returns-clause-written : goal.returns-clause-written
returns-clause-written c =
    let put = rw (c.written_stamp.ensures, c.stamp-was.ensures) at c.put.ensures in
    write_is_written c.args.self.now c.take_next-time.new.self c.put.new.self c.take_next-time.result c.args.id c.take_next-time.ensures.next c.take_next-time.ensures.rises c.take_next-time.ensures.noted put
