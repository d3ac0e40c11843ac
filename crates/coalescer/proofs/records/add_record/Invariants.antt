use Rattle.std.proofs.Common.{◌≡◌, take}
use Rattle.graph_change.specs.Change.{with_effects}
use Rattle.graph_change.specs.View.{changes_of}
use Rattle.coalescer.proofs.records.add_record.Given as goal

abbrev pub invariant-loop-effect : goal.invariant-loop-effect
invariant-loop-effect l = changes_of l.change ≡ with_effects (changes_of l.fn.change) (take l.effect-index l.logged.effects)
