use Rattle.std.proofs.Common.{sym, subst, List}
use Rattle.tier_device.specs.declared.media.Tier.TheVariants as tiers
use Rattle.block_alloc.specs.declared.runs.Run.{Run}
use Rattle.change_plan.specs.FreedRuns.{AreAllRuns}
use Rattle.change_plan.proofs.inode_drop.all_blocks.Goals as goal

pub returns : goal.returns
returns c = record {
  roots = c.in_ok-roots.roots.items;
  fast = c.in_ok-fast.fast.items;
  roots_are = c.in_ok-roots.ensures.blocks;
  roots_some = c.in_ok-roots.ensures.some;
  fast_are = record { all = c.in_ok-fast.ensures.all; can_be_given = c.in_ok-fast.ensures.used };
  block_are = subst (λ (runs : List Run). AreAllRuns c.args.map.now tiers.Block runs) (sym c.in_ok-lost.ensures.block) (record { all = c.in_ok-block.ensures.all; can_be_given = c.in_ok-block.ensures.used });
  slow_are = subst (λ (runs : List Run). AreAllRuns c.args.map.now tiers.Slow runs) (sym c.in_ok-lost.ensures.slow) (record { all = c.in_ok-slow.ensures.all; can_be_given = c.in_ok-slow.ensures.used });
  sorted = c.in_ok-lost.ensures.sorted;
}
