use Rattle.mount_nodes.proofs.StampLemmas.{set_goes, set_is_set}
use Rattle.mount_nodes.proofs.times.Times.set.Goals as goal

pub returns-clause-goes_on : goal.returns-clause-goes_on
returns-clause-goes_on c =
    let put = rw (c.set_stamp.ensures, c.stamp-was.ensures) at c.put.ensures in
    set_goes c.args.self.now c.take_next-time.new.self c.put.new.self c.take_next-time.result c.args.id c.take_next-time.ensures.next c.take_next-time.ensures.rises c.take_next-time.ensures.noted c.args.accessed c.args.modified put

pub returns-clause-set : goal.returns-clause-set
returns-clause-set c =
    let put = rw (c.set_stamp.ensures, c.stamp-was.ensures) at c.put.ensures in
    set_is_set c.take_next-time.new.self c.put.new.self c.take_next-time.result c.args.id c.args.accessed c.args.modified put
