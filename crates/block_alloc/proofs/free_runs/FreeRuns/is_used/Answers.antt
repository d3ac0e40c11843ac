use Rattle.std.proofs.Common.{arith, sym, subst}
use Rattle.block_alloc.specs.Runs.{AreNormalRuns}
use Rattle.block_alloc.proofs.Joins.{normal-wider}
use Rattle.block_alloc.proofs.free_runs.FreeRuns.is_used.Goals as goal

pub is_beside-requires-clause-normal : goal.is_beside-requires-clause-normal
is_beside-requires-clause-normal c = subst (AreNormalRuns 0 4294967295) (sym c.deref.ensures.value) (normal-wider c.self.inside.first c.self.inside.end 0 4294967295 c.self.inside.runs.items (omega arith) (omega (arith, c.self.invariant.fits)) c.self.invariant.normal)
