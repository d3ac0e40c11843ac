use Rattle.mount_nodes.proofs.StampLemmas.{name_runs, name_is_named}
use Rattle.mount_nodes.proofs.times.Times.give_name.Goals as goal

pub returns-clause-runs : goal.returns-clause-runs
returns-clause-runs c =
    let put = rw (c.named_stamp.ensures, c.stamp-was.ensures) at c.put.ensures in
    name_runs c.args.self.now c.take_next-time.new.self c.put.new.self c.take_next-time.result c.args.id c.take_next-time.ensures.next c.take_next-time.ensures.rises c.take_next-time.ensures.noted put

pub returns-clause-named : goal.returns-clause-named
returns-clause-named c =
    let put = rw (c.named_stamp.ensures, c.stamp-was.ensures) at c.put.ensures in
    name_is_named c.args.self.now c.take_next-time.new.self c.put.new.self c.take_next-time.result c.args.id c.take_next-time.ensures.next c.take_next-time.ensures.rises c.take_next-time.ensures.noted put
