-- What the pools are before a plan is carried out.
use Rattle.std.specs.Prelude.{◌≤◌, length}
use Rattle.tier_device.specs.declared.media.Tier.{Tier}
use Rattle.area_reader.specs.layout.Places.{Sizes}
use Rattle.area_reader.specs.Store.{Store}
use Rattle.area_commit.specs.Value.{PoolsView, data_pool, AreInOrder, HasRanges, AreFree}
use Rattle.area_commit.specs.Allocations.{WereTaken, CanRelease}
use Rattle.area_commit.specs.declared.plan.Rewrite.{Rewrite}
use Rattle.area_commit.specs.Plan.{lost_in}

-- The pools had exactly the free blocks of a store until those of the plan were taken; these can be given back, and so can the runs that it gives up, without memory.
pub record AreReadyFor (g : Sizes) (s : Store) (left : PoolsView) (plan : Rewrite) : Type 0 where
  pub before : PoolsView
  pub order : AreInOrder before
  pub ranges : HasRanges g before
  pub free : AreFree g s before
  pub took : WereTaken before left plan.taken
  pub undo : CanRelease left plan.taken
  pub nodes_room : length plan.lost.nodes.items ≤ left.nodes.room
  pub room : (t : Tier) → length (lost_in plan.lost t) ≤ (data_pool left t).room
