use Rattle.std.proofs.Common.{subst, sym}
use Rattle.tier_device.specs.declared.media.Tier.TheVariants.{Fast, Block, Slow}
use Rattle.area_commit.specs.Value.{PoolsView}
use Rattle.area_commit.specs.Allocations.{CanGive}
use Rattle.area_commit.proofs.pools.Pools.release.Goals as goal

pub give_runs-requires-2 : goal.give_runs-requires-2
give_runs-requires-2 c = subst (CanGive c.self.inside.fast) (sym c.deref-2.ensures.value) (subst (λ (v : PoolsView). CanGive v.fast c.args.taken.fast.items) (sym c.self.view_is) (c.requires.per_tier Fast))

pub give_runs-requires-3 : goal.give_runs-requires-3
give_runs-requires-3 c = subst (CanGive c.self.inside.block) (sym c.deref-3.ensures.value) (subst (λ (v : PoolsView). CanGive v.block c.args.taken.block.items) (sym c.self.view_is) (c.requires.per_tier Block))

pub give_runs-requires-4 : goal.give_runs-requires-4
give_runs-requires-4 c = subst (CanGive c.self.inside.slow) (sym c.deref-4.ensures.value) (subst (λ (v : PoolsView). CanGive v.slow c.args.taken.slow.items) (sym c.self.view_is) (c.requires.per_tier Slow))
