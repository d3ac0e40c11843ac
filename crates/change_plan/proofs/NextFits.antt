-- Before the next inode is planned, the numbers of the node pool's blocks have 32 bits, and so has the count of the free ones.
use Rattle.std.proofs.Common.{◌≡◌, ◌≤◌, ◌<◌, ◌^◌, ◌++◌, ℕ, List, length, sym, subst, arith}
use Rattle.std.proofs.lemmas.List.{length-append}
use Rattle.inode_plan.specs.graph_change.Change.{Change}
use Rattle.inode_plan.specs.layout.Places.{Sizes}
use Rattle.inode_plan.specs.layout.declared.slot.Slot.{Slot}
use Rattle.block_alloc.specs.Runs.{blocks_of}
use Rattle.block_alloc.proofs.Blocks.{length-rising}
use Rattle.inode_plan.specs.area_reader.Store.{Store}
use Rattle.inode_plan.specs.area_commit.Value.{PoolsView}
use Rattle.inode_plan.specs.area_commit.declared.allocation.Allocation.{Allocation}
use Rattle.inode_plan.specs.Spare.{spares_for}
use Rattle.inode_plan.specs.declared.directory_change.ChangedDirectory.{ChangedDirectory}
use Rattle.change_plan.specs.DirectoryChange.{IsChangedFrom}
use Rattle.change_plan.specs.Next.{IsNext, nodes_for}
use Rattle.change_plan.proofs.FewBlocks.{few_spares}

module _ (g : Sizes) (s : Store) (i : ℕ) (slot : Slot) (c : Change) (left : PoolsView) (taken : Allocation) (images : List (ℕ × List ℕ)) (next : IsNext g s i slot c left taken images) where
  pub nodes_end : next.pools.before.nodes.end < 2 ^ 32
  nodes_end =
      let end = next.pools.ranges.nodes_end in
      let few = next.allowed.few_units in
      omega (arith, end, few)

  few_free : length left.nodes.free < 2 ^ 32
  few_free =
      let pool = next.pools.took.nodes.pool in
      let first = pool.first in
      let end = pool.end in
      let low : left.nodes.first ≤ left.nodes.end = omega (arith, first, end, next.pools.ranges.nodes_first, next.pools.ranges.nodes_end) in
      let all = length-rising left.nodes.first left.nodes.end (blocks_of taken.nodes.items ++ left.nodes.free) low next.pools.undo.nodes.before in
      let most = nodes_end in
      omega (arith, all, end, most, length-append (blocks_of taken.nodes.items) left.nodes.free)

  module _ (x : ChangedDirectory) (from : IsChangedFrom g s c i x) (count : ℕ) (is : count ≡ spares_for x) where
    pub count_few : count ≤ nodes_for c
    count_few = subst (λ (n : ℕ). n ≤ nodes_for c) (sym is) (few_spares g s c i x from)

    pub count_free : count ≤ length left.nodes.free
    count_free = let few = count_few in let enough = next.nodes in omega (arith, few, enough)

    pub count_fits : count < 2 ^ 32
    count_fits = let free = count_free in let most = few_free in omega (arith, free, most)
