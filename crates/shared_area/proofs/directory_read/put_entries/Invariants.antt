use Rattle.std.proofs.Common.{◌≡◌, ◌+◌, ℕ}
use Rattle.area_reader.specs.layout.Directory.{block_entries}
use Rattle.area_reader.specs.tree_blocks.Inode.{Entry, named_entries}
use Rattle.shared_area.specs.DirectoryReads.{AreNext}
use Rattle.shared_area.proofs.directory_read.put_entries.Given as goal

abbrev pub invariant-entries : goal.invariant-entries
invariant-entries l = (entry : ℕ → Entry) (n : ℕ) → AreNext entry n (block_entries l.block) → l.fn.entries ≡ named_entries entry n → l.entries ≡ named_entries entry (n + l.index)
