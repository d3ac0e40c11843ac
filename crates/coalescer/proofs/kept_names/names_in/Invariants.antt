use Rattle.std.proofs.Common.{◌≡◌, take}
use Rattle.graph_change.specs.Swaps.{on_names}
use Rattle.coalescer.specs.Records.{effects_in}
use Rattle.coalescer.proofs.kept_names.names_in.Given as goal

abbrev pub invariant-loop-logged : goal.invariant-loop-logged
invariant-loop-logged l = l.names.items ≡ on_names (effects_in (take l.logged-index l.records))
