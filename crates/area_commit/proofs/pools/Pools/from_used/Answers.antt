use Rattle.std.proofs.Common.{◌≡◌}
use Rattle.area_reader.specs.layout.Places.{data_first, tier_blocks}
use Rattle.area_commit.specs.Value.{PoolsView, data_pool, HasRanges, HasUnmarked}
use Rattle.area_commit.proofs.Members.{are_free, each_tier}
use Rattle.area_commit.proofs.pools.Pools.from_used.Goals as goal

pub returns-clause-free : goal.returns-clause-free
returns-clause-free c s marked =
    let g = c.args.geometry.now in
    let p : PoolsView = record { nodes = c.in_ok-nodes.nodes; fast = c.in_ok-fast.fast; block = c.in_ok-block.block; slow = c.in_ok-slow.slow } in
    let ranges : HasRanges g p = record {
      nodes_first = c.in_ok-nodes.ensures.first;
      nodes_end = c.in_ok-nodes.ensures.end;
      first = each_tier (λ t. (data_pool p t).first ≡ data_first g t) c.in_ok-fast.ensures.first c.in_ok-block.ensures.first c.in_ok-slow.ensures.first;
      end = each_tier (λ t. (data_pool p t).end ≡ tier_blocks g t) c.in_ok-fast.ensures.end c.in_ok-block.ensures.end c.in_ok-slow.ensures.end;
    } in
    are_free g s c.args.used.now p marked ranges c.in_ok-nodes.ensures.free
    (each_tier (λ t. HasUnmarked c.args.used.now t (data_pool p t)) c.in_ok-fast.ensures.free c.in_ok-block.ensures.free c.in_ok-slow.ensures.free)
