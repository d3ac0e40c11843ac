use Rattle.std.proofs.Common.{◌≢◌, ◌<◌, ℕ, length}
use Rattle.layout.specs.Directory.{block_entries, entry_of}
use Rattle.tree_blocks.specs.Directory.{numbered_blocks}
use Rattle.tree_blocks.proofs.entry_blocks.find_in.Given as goal

abbrev pub invariant-blocks-2 : goal.invariant-blocks-2
invariant-blocks-2 l = (k i : ℕ) → k < l.k → i < length (block_entries (numbered_blocks l.blocks k)).entries → (entry_of (block_entries (numbered_blocks l.blocks k)) i).name ≢ l.name
