use Rattle.std.proofs.Common.{◌≡◌, ◌<◌, ℕ, false, slice_index_or}
use Rattle.std.specs.Str.{bytes_eq}
use Rattle.layout.specs.declared.directory.DirEntry.{DirEntry}
use Rattle.layout.specs.Directory.{block_entries}
use Rattle.layout.proofs.dir_entries.place_of.Given as goal

abbrev pub invariant-entries : goal.invariant-entries
invariant-entries l = (k : ℕ) (d : DirEntry) → k < l.index → bytes_eq (slice_index_or (block_entries l.block).entries k d).name l.name ≡ false
