use Rattle.std.proofs.Common.{arith}
use Rattle.tier_device.specs.declared.media.Tier.TheVariants.{Fast, Block, Slow}
use Rattle.area_commit.proofs.Fronts.{back}
use Rattle.area_commit.proofs.pools.Pools.take_parts.Goals as goal

pub returns-in-Err-fill-clause-err : goal.returns-in-Err-fill-clause-err
returns-in-Err-fill-clause-err c =
    let same = c.reserve.ensures.same in
    let taken = c.fill.ensures.taken in
    let given = c.release.ensures in
    record {
      nodes = back _ _ _ _ _ same.nodes taken.nodes given.nodes;
      fast = back _ _ _ _ _ same.fast (taken.per_tier Fast) (given.per_tier Fast);
      block = back _ _ _ _ _ same.block (taken.per_tier Block) (given.per_tier Block);
      slow = back _ _ _ _ _ same.slow (taken.per_tier Slow) (given.per_tier Slow);
    }

pub returns-in-Ok-fill-clause-room : goal.returns-in-Ok-fill-clause-room
returns-in-Ok-fill-clause-room c =
    let kept = c.reserve.ensures.kept in
    let taken = c.fill.ensures.taken in
    record {
      nodes = omega (arith, kept.nodes, taken.nodes.kept);
      fast = omega (arith, kept.fast, (taken.per_tier Fast).kept);
      block = omega (arith, kept.block, (taken.per_tier Block).kept);
      slow = omega (arith, kept.slow, (taken.per_tier Slow).kept);
    }
