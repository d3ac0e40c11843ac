use Rattle.std.proofs.Common.{arith}
use Rattle.coalescer.proofs.Counted.{span_length}
use Rattle.coalescer.proofs.estimate.blocks_in.Goals as goal

pub returns : goal.returns
returns c = span_length c.args.at c.args.count c.last_of.result (omega (arith, c.if-count-eq0.false)) c.last_of.ensures.is
