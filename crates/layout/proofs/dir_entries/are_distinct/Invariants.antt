use Rattle.std.proofs.Common.{◌≡◌, drop}
use Rattle.layout.specs.Directory.{block_entries, are_distinct}
use Rattle.layout.proofs.dir_entries.are_distinct.Given as goal

abbrev pub invariant-entries : goal.invariant-entries
invariant-entries l = are_distinct (drop l.index (block_entries l.block).entries) ≡ are_distinct (block_entries l.block).entries
