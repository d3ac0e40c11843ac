use Rattle.std.proofs.Common.{◌≡◌, ◌≢◌, ◌≤◌, ◌+◌, length, take, drop}
use Rattle.tier_device.specs.declared.media.Tier.{Tier}
use Rattle.block_alloc.specs.Runs.{blocks_of}
use Rattle.area_commit.specs.Value.{data_pool}
use Rattle.area_commit.specs.Release.{AreUsed, WereAdded}
use Rattle.area_commit.proofs.returned_blocks.give_data.Given as goal

-- the first runs are given
abbrev pub invariant-runs : goal.invariant-runs
invariant-runs l = record {
  added : WereAdded (data_pool l.fn.pools l.tier) (data_pool l.pools l.tier) (blocks_of (take l.place l.runs));
  used : AreUsed (data_pool l.pools l.tier) (drop l.place l.runs);
  room : length l.runs ≤ (data_pool l.pools l.tier).room + l.place;
  left : (data_pool l.fn.pools l.tier).room ≤ (data_pool l.pools l.tier).room + l.place;
  others : (t : Tier) → t ≢ l.tier → data_pool l.pools t ≡ data_pool l.fn.pools t;
  nodes : l.pools.nodes ≡ l.fn.pools.nodes;
}
