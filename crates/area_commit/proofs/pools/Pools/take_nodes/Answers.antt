use Rattle.std.proofs.Common.{◌≡◌, ◌++◌, refl, sym, subst, take, drop}
use Rattle.std.specs.Prelude.{OnOk}
use Rattle.block_alloc.specs.Runs.{blocks_of}
use Rattle.area_commit.specs.Value.{PoolsView, data_pool}
use Rattle.area_commit.specs.declared.allocation.Allocation.{Allocation}
use Rattle.area_commit.specs.Allocations.{CanRelease, TakesMore, runs_of}
use Rattle.area_commit.proofs.Members.{each_tier}
use Rattle.area_commit.proofs.Seams.{both_fronts, ok_both, takes_more}
use Rattle.area_commit.proofs.pools.Pools.take_nodes.Goals as goal

pub returns-clause-took : goal.returns-clause-took
returns-clause-took c =
    let p : PoolsView = record { nodes = c.self.inside.nodes; fast = c.self.inside.fast; block = c.self.inside.block; slow = c.self.inside.slow } in
    let q : PoolsView = record { nodes = c.take_more.new.pool; fast = c.self.inside.fast; block = c.self.inside.block; slow = c.self.inside.slow } in
    let old = c.args.taken.now in
    let new : Allocation = record { nodes = c.take_more.new.runs; fast = old.fast; block = old.block; slow = old.slow } in
    let others = each_tier (λ t. data_pool q t ≡ data_pool p t) refl refl refl in
    let lists = each_tier (λ t. runs_of new t ≡ runs_of old t) refl refl refl in
    let can : CanRelease p old = subst (λ (v : PoolsView). CanRelease v old) (sym c.self.view_is) c.requires in
    subst (λ (v : PoolsView). OnOk c.take_more.result (TakesMore v old q new)) c.self.view_is (ok_both c.take_more.result
    (blocks_of new.nodes.items ≡ blocks_of old.nodes.items ++ take c.args.count p.nodes.free) (q.nodes.free ≡ drop c.args.count p.nodes.free) (TakesMore p old q new)
    (λ blocks left. takes_more p q old new others lists can c.take_more.ensures.can c.take_more.ensures.pool (both_fronts old.nodes.items new.nodes.items p.nodes.free q.nodes.free c.args.count blocks left) c.take_more.ensures.room)
    c.take_more.ensures.blocks c.take_more.ensures.left)
