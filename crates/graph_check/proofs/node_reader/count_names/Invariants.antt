use Rattle.std.proofs.Common.{◌≡◌, ◌≤◌, ℕ, length, take, get_or}
use Rattle.graph_check.specs.declared.tables.NameCount.{NameCount}
use Rattle.graph_check.specs.Tables.{named_in, more_named}
use Rattle.graph_check.proofs.node_reader.count_names.Given as goal

abbrev pub invariant-loop-entry : goal.invariant-loop-entry
invariant-loop-entry l = record {
  places : length l.table.items ≡ 1025;
  counted : (i : ℕ) (x : NameCount) → i ≤ 1024 → get_or l.table.items i x ≡ more_named l.directory (named_in l.kind i (take l.entry-index l.entries)) (get_or l.fn.table.items i x);
}
