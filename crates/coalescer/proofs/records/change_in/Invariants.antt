use Rattle.std.proofs.Common.{◌≡◌, take}
use Rattle.graph_change.specs.Change.{coalesced_changes}
use Rattle.graph_change.specs.View.{changes_of}
use Rattle.coalescer.specs.Records.{effects_in}
use Rattle.coalescer.proofs.records.change_in.Given as goal

abbrev pub invariant-loop-logged : goal.invariant-loop-logged
invariant-loop-logged l = changes_of l.change ≡ coalesced_changes (effects_in (take l.logged-index l.records))
