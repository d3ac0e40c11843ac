use Rattle.std.proofs.Common.{◌≡◌, drop}
use Rattle.std.specs.List.{list_all}
use Rattle.layout.specs.Directory.{block_entries}
use Rattle.layout.proofs.DirPlaces.{is_other}
use Rattle.layout.proofs.dir_entries.differs_from.Given as goal

abbrev pub invariant-entries : goal.invariant-entries
invariant-entries l = list_all (is_other l.name) (drop l.index (block_entries l.block).entries) ≡ list_all (is_other l.name) (drop l.first (block_entries l.block).entries)
