use Rattle.std.proofs.Common.{◌≡◌, ◌+◌, ◌-◌, ap, arith, length, length-append}
use Rattle.tier_device.specs.declared.media.Tier.TheVariants.{Fast, Block}
use Rattle.block_alloc.specs.Runs.{blocks_of}
use Rattle.area_commit.specs.Value.{PoolsView}
use Rattle.std.specs.Prelude.{Ok}
use Rattle.area_commit.specs.declared.allocation.Allocation.{Allocation}
use Rattle.area_commit.specs.Allocations.{WereTaken, taken_data}
use Rattle.area_commit.proofs.Splits.{ok_at, with_ok, on_ok_each, FastestFirst, taken-length, data_taken, data_left}
use Rattle.area_commit.proofs.pools.Pools.take.Goals as goal

module _ (c : goal.After-take_parts) (taken : Allocation) (is : c.take_parts.result ≡ Ok taken) where
  abbrev pub old : PoolsView
  old = c.args.self.now

  abbrev pub new : PoolsView
  new = c.take_parts.new.self

  were : WereTaken old new taken
  were = ok_at _ (WereTaken old new) taken is c.take_parts.ensures.fronts

  fast : length (blocks_of taken.fast.items) ≡ c.min-fast.result
  fast = ok_at _ (λ (t : Allocation). length (blocks_of t.fast.items) ≡ c.min-fast.result) taken is c.take_parts.ensures.fast

  block : length (blocks_of taken.block.items) ≡ c.min-block.result
  block = ok_at _ (λ (t : Allocation). length (blocks_of t.block.items) ≡ c.min-block.result) taken is c.take_parts.ensures.block

  slow : length (blocks_of taken.slow.items) ≡ c.args.blocks - c.min-fast.result - c.min-block.result
  slow = ok_at _ (λ (t : Allocation). length (blocks_of t.slow.items) ≡ c.args.blocks - c.min-fast.result - c.min-block.result) taken is c.take_parts.ensures.slow

  fast_had : length c.self.inside.fast.free ≡ length (blocks_of taken.fast.items) + length new.fast.free
  fast_had = omega (arith, ap (λ (v : PoolsView). length v.fast.free) c.self.view_is, ap length (were.per_tier Fast).front, length-append (blocks_of taken.fast.items) new.fast.free)

  block_had : length c.self.inside.block.free ≡ length (blocks_of taken.block.items) + length new.block.free
  block_had = omega (arith, ap (λ (v : PoolsView). length v.block.free) c.self.view_is, ap length (were.per_tier Block).front, length-append (blocks_of taken.block.items) new.block.free)

  pub first : FastestFirst new taken
  first = record {
    fast = λ some. omega (arith, some, fast, block, slow, fast_had, c.min-fast.ensures, c.min-block.ensures, c.free.ensures.count, c.free-2.ensures.count);
    block = λ some. omega (arith, some, fast, block, slow, block_had, c.min-fast.ensures, c.min-block.ensures, c.free.ensures.count, c.free-2.ensures.count);
  }

  pub all : length (taken_data taken) ≡ c.args.blocks
  all = omega (arith, taken-length taken, fast, block, slow, c.min-fast.ensures, c.min-block.ensures)

pub returns-clause-data : goal.returns-clause-data
returns-clause-data c = with_ok _ _ (λ taken is. data_taken (old c taken is) (new c taken is) taken c.args.blocks (were c taken is) (first c taken is) (all c taken is))

pub returns-clause-left_data : goal.returns-clause-left_data
returns-clause-left_data c = on_ok_each _ _ (λ taken is. data_left (old c taken is) (new c taken is) taken c.args.blocks (were c taken is) (first c taken is) (all c taken is))
