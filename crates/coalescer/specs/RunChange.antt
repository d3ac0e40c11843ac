-- What the change of a run of records stands for.
use Rattle.graph_change.specs.Swaps.{SwappedChange}
use Rattle.graph_change.specs.View.{changes_of}
use Rattle.coalescer.specs.declared.run_change.RunChange.{RunChange}

-- the change, and the effects on names that are kept beside it
abbrev pub swapped_of : RunChange → SwappedChange
swapped_of r = record { change = changes_of r.change; names = r.names }
