use Rattle.std.proofs.Common.{◌≡◌, ◌≤◌, length}
use Rattle.block_cache.proofs.Entries.{after_turns}
use Rattle.block_cache.proofs.file_drop.drop_blocks.Given as goal

-- all but the first so many have had their turn
abbrev pub invariant-turns : goal.invariant-turns
invariant-turns l = record {
  within : l.left ≤ length l.fn.cache.entries;
  turned : l.cache.entries ≡ after_turns l.inode l.left l.fn.cache.entries;
  cap : l.cache.cap ≡ l.fn.cache.cap;
}

abbrev pub decreases-turns : goal.decreases-turns
decreases-turns l = l.left
