use Rattle.std.proofs.Common.{◌≡◌, ◌≤◌}
use Rattle.tree_blocks.specs.Directory.{coming_count}
use Rattle.tree_blocks.proofs.NameChanges.{behind}
use Rattle.tree_blocks.proofs.name_changes.coming_count.Given as goal

abbrev pub invariant-changes : goal.invariant-changes
invariant-changes l = record { count : l.count ≡ coming_count (behind l.changes l.done); few : l.count ≤ l.done }
