-- What is read of a directory.
use Rattle.std.specs.Prelude.{◌≡◌, ◌<◌, ◌+◌, ℕ, length}
use Rattle.area_reader.specs.layout.Directory.{EntryList, entry_of}
use Rattle.area_reader.specs.tree_blocks.Inode.{Entry, plain, AreDistinct}

-- Behind the first n entries of a directory come those of a block.
pub record AreNext (entry : ℕ → Entry) (n : ℕ) (v : EntryList) : Type 0 where
  pub each : (k : ℕ) → k < length v.entries → entry (n + k) ≡ plain (entry_of v k)
  pub distinct : AreDistinct entry (n + length v.entries)
