use Rattle.std.proofs.Common.{◌≡◌, ◌+◌, ℕ}
use Rattle.block_cache.specs.CacheList.{used_run}
use Rattle.client_view.proofs.copies.use_run.Given as goal

-- the blocks before this one are used
abbrev pub invariant-loop-block : goal.invariant-loop-block
invariant-loop-block l = (n : ℕ) × (l.block ≡ l.first + n) × (l.blocks ≡ used_run l.inode l.first n l.fn.blocks)
