use Rattle.std.proofs.Common.{arith}
use Rattle.block_alloc.proofs.Blocks.{normal-rising}
use Rattle.block_alloc.proofs.Joins.{normal-at}
use Rattle.block_alloc.proofs.free_runs.FreeRuns.take.Goals as goal

pub drop_front-requires-clause-fits : goal.drop_front-requires-clause-fits
drop_front-requires-clause-fits c i r below =
    omega (arith, normal-at c.self.inside.first c.self.inside.end i c.self.inside.runs.items r c.self.invariant.normal (omega (arith, below)), c.self.invariant.fits)

pub returns-clause-ordered : goal.returns-clause-ordered
returns-clause-ordered c = normal-rising c.self.inside.first c.self.inside.end c.drop_front.new.runs.items (c.drop_front.ensures.normal c.self.inside.first c.self.inside.end c.self.invariant.normal)
