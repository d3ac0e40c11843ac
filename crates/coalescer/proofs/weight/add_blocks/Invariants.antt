use Rattle.std.proofs.Common.{◌≡◌, ℕ, ◌-◌}
use Rattle.std.specs.Prelude.{◌||◌}
use Rattle.std.specs.List.{range_with_len}
use Rattle.std.specs.Set.{is_member}
use Rattle.std.specs.BTreeSet.{contains}
use Rattle.coalescer.specs.Weight.{same_block, blocks_at}
use Rattle.coalescer.specs.EffectCounts.{block_cmp}
use Rattle.coalescer.proofs.weight.add_blocks.Given as goal

abbrev pub invariant-loop-block : goal.invariant-loop-block
invariant-loop-block l = (q : ℕ × ℕ) → contains block_cmp l.blocks q ≡ (contains block_cmp l.fn.blocks q || is_member same_block (blocks_at l.inode (range_with_len l.first (l.block - l.first))) q)
