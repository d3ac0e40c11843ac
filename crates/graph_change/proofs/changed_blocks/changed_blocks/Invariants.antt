use Rattle.std.proofs.Common.{◌≡◌, ◌+◌, length}
use Rattle.graph_change.specs.BlockChanges.{ChangedFrom}
use Rattle.graph_change.specs.View.{patches_of}
use Rattle.graph_change.proofs.changed_blocks.changed_blocks.Given as goal

abbrev pub invariant-loop-number : goal.invariant-loop-number
invariant-loop-number l = record {
  count : l.first + length l.changed.items ≡ l.number;
  each : ChangedFrom l.first l.at l.bytes (patches_of l.blocks) l.changed.items;
}
