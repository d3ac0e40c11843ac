use Rattle.std.proofs.Common.{List, ◌++◌, take}
use Rattle.graph_change.specs.file_graph.declared.effect.Effect.{Effect}
use Rattle.coalescer.specs.EffectCounts.{IsEstimate}
use Rattle.coalescer.proofs.estimate.Estimate.add.Given as goal

abbrev pub invariant-loop-effect : goal.invariant-loop-effect
invariant-loop-effect l = (es : List Effect) → IsEstimate es l.fn.self → IsEstimate (es ++ take l.effect-index l.logged.effects) l.self
