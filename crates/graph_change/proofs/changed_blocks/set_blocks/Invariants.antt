use Rattle.std.proofs.Common.{◌≡◌, ◌≤◌, length, take}
use Rattle.graph_change.specs.View.{patches_of}
use Rattle.graph_change.proofs.Changed.{SetDown}
use Rattle.graph_change.proofs.changed_blocks.set_blocks.Given as goal

abbrev pub invariant-last : goal.invariant-last
invariant-last l = record {
  left : l.changed.items ≡ take (length l.changed.items) l.fn.changed.items;
  most : length l.changed.items ≤ length l.fn.changed.items;
  set : SetDown l.first (length l.changed.items) l.fn.changed.items (patches_of l.fn.blocks) (patches_of l.blocks);
}

abbrev pub decreases-last : goal.decreases-last
decreases-last l = length l.changed.items
