use Rattle.std.proofs.Common.{◌≡◌, ◌≤◌, true}
use Rattle.strata_threads.proofs.region_digest.digest_all.Given as goal

abbrev pub invariant-loop-chunk : goal.invariant-loop-chunk
invariant-loop-chunk g l = (l.region.read ≡ true) × (l.fn.region.done ≤ l.region.done) × (l.region ≡ record l.fn.region { done = l.region.done })
