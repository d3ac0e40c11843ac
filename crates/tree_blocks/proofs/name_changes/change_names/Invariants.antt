use Rattle.std.proofs.Common.{◌≡◌, ◌≤◌, ◌+◌, vec_capacity}
use Rattle.graph_change.specs.Net.{with_entries}
use Rattle.tree_blocks.specs.Inode.{entry_at, named_entries}
use Rattle.tree_blocks.specs.Directory.{numbered_blocks, coming_count, most_written, AreHeld}
use Rattle.tree_blocks.specs.BlockMarks.{WereMarked}
use Rattle.tree_blocks.proofs.NameChanges.{behind}
use Rattle.tree_blocks.proofs.name_changes.change_names.Given as goal

abbrev pub invariant-changes : goal.invariant-changes
invariant-changes l = record {
  held : AreHeld l.owner l.after l.blocks.items;
  entries : named_entries (entry_at (numbered_blocks l.blocks.items)) l.after ≡ with_entries (behind l.changes l.done) (named_entries (entry_at (numbered_blocks l.fn.blocks.items)) l.count);
  few : l.after ≤ l.count + coming_count (behind l.changes l.done);
  marks : WereMarked (most_written (behind l.changes l.done)) l.fn.marks l.marks l.fn.blocks.items l.blocks.items;
  room : vec_capacity l.fn.blocks ≤ vec_capacity l.blocks;
}
