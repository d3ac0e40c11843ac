use Rattle.std.proofs.Common.{subst}
use Rattle.block_alloc.specs.Value.{InOrder}
use Rattle.block_alloc.proofs.Blocks.{normal-rising}
use Rattle.block_alloc.proofs.free_runs.FreeRuns.free.Goals as goal

pub returns-clause-ordered : goal.returns-clause-ordered
returns-clause-ordered c = subst InOrder c.self.view_is (normal-rising c.self.inside.first c.self.inside.end c.self.inside.runs.items c.self.invariant.normal)
