use Rattle.std.proofs.Common.{take}
use Rattle.coalescer.specs.EffectCounts.{IsEstimate}
use Rattle.coalescer.specs.Records.{effects_in}
use Rattle.coalescer.proofs.estimate.surely_fit.Given as goal

abbrev pub invariant-loop-logged : goal.invariant-loop-logged
invariant-loop-logged l = IsEstimate (effects_in (take l.logged-index l.records)) l.most
