use Rattle.std.proofs.Common.{◌∙◌, ◌+◌, ℕ, [], get_or, ap}
use Rattle.area_commit.specs.graph_change.View.{change_of}
use Rattle.tier_device.specs.declared.media.Tier.TheVariants.{Fast, Block, Slow}
use Rattle.area_commit.specs.area_reader.Store.{root_of}
use Rattle.inode_plan.specs.Lists.{root_for}
use Rattle.area_commit.specs.tree_blocks.Inode.{LogicalBlocks}
use Rattle.inode_plan.specs.Roots.{missing_roots}
use Rattle.inode_plan.proofs.Roots.{slot_fits, file_same}
use Rattle.inode_plan.proofs.slot_change.slot_after.Goals as goal

pub returns-clause-fits : goal.returns-clause-fits
returns-clause-fits c g was bounded fit =
    let slot = c.args.slot.now in
    let x = c.args.lists.now in
    let spare = c.args.spare.now in
    let blocks : LogicalBlocks = λ k. [] in
    let one = c.missing_roots-second.ensures.is ∙ ap (λ (r : ℕ). missing_roots r x.fast) c.root_of-fast.ensures in
    let two = c.missing_roots.ensures.is ∙ ap (λ (r : ℕ). missing_roots r x.block) c.root_of-block.ensures in
    file_same g _ _ _ _ c.args.touch _ _ _ _ _ _ (c.names_after.ensures blocks) (c.size_after.ensures blocks)
    (c.root_for.ensures ∙ ap (λ (r : ℕ). root_for r x.fast (get_or spare 0 0)) c.root_of-fast.ensures)
    (c.root_for-2.ensures ∙ ap (λ (r : ℕ). root_for r x.block (get_or spare c.missing_roots-second.result 0)) c.root_of-block.ensures ∙ ap (λ (n : ℕ). root_for (root_of slot Block) x.block (get_or spare n 0)) one)
    (c.root_for-3.ensures ∙ ap (λ (r : ℕ). root_for r x.slow (get_or spare (c.missing_roots-second.result + c.missing_roots.result) 0)) c.root_of-slow.ensures
    ∙ ap (λ (n : ℕ). root_for (root_of slot Slow) x.slow (get_or spare (n + c.missing_roots.result) 0)) one
    ∙ ap (λ (n : ℕ). root_for (root_of slot Slow) x.slow (get_or spare (missing_roots (root_of slot Fast) x.fast + n) 0)) two)
    (slot_fits g slot x spare (change_of c.args.change.now) blocks c.args.touch was bounded fit c.requires c.ranges.touch.fits)
