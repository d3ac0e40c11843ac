use Rattle.std.proofs.Common.{◌≡◌, ◌≤◌, ◌+◌}
use Rattle.std.specs.FinMap as fin
use Rattle.graph_change.specs.Net.{with_entries}
use Rattle.tree_blocks.specs.Inode.{entry_at, named_entries}
use Rattle.tree_blocks.specs.Directory.{numbered_blocks}
use Rattle.tree_blocks.proofs.NameChanges.{behind}
use Rattle.tree_blocks.proofs.name_changes.count_after.Given as goal

abbrev pub invariant-changes : goal.invariant-changes
invariant-changes l = record { count : l.after ≡ fin.len (with_entries (behind l.changes l.done) (named_entries (entry_at (numbered_blocks l.blocks)) l.count)); few : l.after ≤ l.count + l.done }
