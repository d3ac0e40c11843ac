use Rattle.std.proofs.Common.{◌≡◌, ◌<◌, take, true}
use Rattle.coalescer.specs.Records.{effects_in}
use Rattle.coalescer.specs.Weight.{fits_chunk}
use Rattle.coalescer.specs.EffectCounts.{Weighs}
use Rattle.coalescer.proofs.run.counted_run.Given as goal

abbrev pub invariant-loop-count : goal.invariant-loop-count
invariant-loop-count l = Weighs (effects_in (take l.count l.records)) l.weight × (1 < l.count → fits_chunk (effects_in (take l.count l.records)) ≡ true)
