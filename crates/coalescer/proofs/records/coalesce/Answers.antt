use Rattle.std.proofs.Common.{◌≡◌, List, ap, sym, ◌∙◌, subst}
use Rattle.graph_change.specs.file_graph.declared.effect.Effect.{Effect}
use Rattle.graph_change.specs.Change.{Changes, Coalesces}
use Rattle.graph_change.specs.Swaps.{SwappedChange, swapped_graph}
use Rattle.graph_change.proofs.SwapNames.{sum_is}
use Rattle.graph_change.proofs.Touched.{coalesces}
use Rattle.coalescer.specs.Records.{effects_in}
use Rattle.coalescer.proofs.records.coalesce.Goals as goal

-- a change, with names beside it
abbrev beside : Changes → List Effect → SwappedChange
beside change names = record { change = change; names = names }

same : (c d : Changes) (m n : List Effect) → c ≡ d → m ≡ n → beside c m ≡ beside d n
same c d m n change names = ap (λ (x : Changes). beside x m) change ∙ ap (λ (x : List Effect). beside d x) names

pub returns-clause-exact : goal.returns-clause-exact
returns-clause-exact c = same _ _ _ _ c.in_ok-change.ensures.exact c.in_ok-names.ensures.exact

pub returns-clause-meaning : goal.returns-clause-meaning
returns-clause-meaning c = λ g. ap (λ (s : SwappedChange). swapped_graph s g) (same _ _ _ _ c.in_ok-change.ensures.exact c.in_ok-names.ensures.exact) ∙ sum_is (effects_in c.args.records.now) g

pub returns-clause-once : goal.returns-clause-once
returns-clause-once c = subst (Coalesces (effects_in c.args.records.now)) (sym c.in_ok-change.ensures.exact) (coalesces (effects_in c.args.records.now))
