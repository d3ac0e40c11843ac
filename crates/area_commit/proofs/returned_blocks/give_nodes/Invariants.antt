use Rattle.std.proofs.Common.{◌≡◌, ◌≤◌, ◌+◌, length, take, drop}
use Rattle.tier_device.specs.declared.media.Tier.{Tier}
use Rattle.block_alloc.specs.Runs.{blocks_of}
use Rattle.area_commit.specs.Value.{data_pool}
use Rattle.area_commit.specs.Release.{AreUsed, WereAdded}
use Rattle.area_commit.proofs.returned_blocks.give_nodes.Given as goal

-- the first runs are given
abbrev pub invariant-runs : goal.invariant-runs
invariant-runs l = record {
  added : WereAdded l.fn.pools.nodes l.pools.nodes (blocks_of (take l.place l.runs));
  used : AreUsed l.pools.nodes (drop l.place l.runs);
  room : length l.runs ≤ l.pools.nodes.room + l.place;
  left : l.fn.pools.nodes.room ≤ l.pools.nodes.room + l.place;
  others : (t : Tier) → data_pool l.pools t ≡ data_pool l.fn.pools t;
}
