use Rattle.std.proofs.Common.{◌≡◌, ◌++◌, take}
use Rattle.graph_change.specs.Swaps.{on_names}
use Rattle.coalescer.proofs.kept_names.add_names.Given as goal

abbrev pub invariant-loop-effect : goal.invariant-loop-effect
invariant-loop-effect l = l.names.items ≡ l.fn.names.items ++ on_names (take l.effect-index l.logged.effects)
