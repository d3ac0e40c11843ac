use Rattle.std.proofs.Common.{List, ◌++◌, take}
use Rattle.graph_change.specs.file_graph.declared.effect.Effect.{Effect}
use Rattle.coalescer.specs.EffectCounts.{Weighs}
use Rattle.coalescer.proofs.weight.Weight.add.Given as goal

abbrev pub invariant-loop-effect : goal.invariant-loop-effect
invariant-loop-effect l = (es : List Effect) → Weighs es l.fn.self → Weighs (es ++ take l.effect-index l.logged.effects) l.self
