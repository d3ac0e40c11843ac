use Rattle.std.proofs.Common.{arith}
use Rattle.mount_nodes.proofs.StampLemmas.{added_meets}
use Rattle.mount_nodes.proofs.times.Times.begin.Goals as goal

pub returns-then-id-count-2 : goal.returns-then-id-count-2
returns-then-id-count-2 c =
    let added = rw c.first_stamp-stamp.ensures at c.add.ensures.added in
    added_meets c.args.self.now c.add.new.self c.args.id c.generation-generation.result c.add.result (omega (arith, c.if-id-count-2.true, c.args.self.now.stamps.ok.0)) c.generation-generation.ensures added c.add.ensures.refused
