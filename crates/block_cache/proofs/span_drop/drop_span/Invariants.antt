use Rattle.std.proofs.Common.{◌≡◌}
use Rattle.block_cache.specs.Entries.{others_than}
use Rattle.block_cache.specs.Spans.{AreFromTo}
use Rattle.block_cache.proofs.span_drop.drop_span.Given as goal

-- what is left of the file lies from this block on
abbrev pub invariant-loop-block : goal.invariant-loop-block
invariant-loop-block l = record {
  others : others_than l.inode l.cache.entries ≡ others_than l.inode l.fn.cache.entries;
  left : AreFromTo l.inode l.block l.span.last l.cache.entries;
  cap : l.cache.cap ≡ l.fn.cache.cap;
}
