use Rattle.std.proofs.Common.{[], sym, ap, subst, arith, rules}
use Rattle.std.specs.Prelude.{is_some}
use Rattle.std.proofs.lemmas.Grind.{common_steps}
use Rattle.inode_plan.specs.layout.declared.places.TheConstants.{FILE_BLOCKS}
use Rattle.block_alloc.specs.Runs.{blocks_of}
use Rattle.inode_plan.specs.extent_tree.Map.{runs_in, LieBelow}
use Rattle.inode_plan.specs.area_reader.Map.{in_tier}
use Rattle.inode_plan.specs.area_commit.Allocations.{runs_of}
use Rattle.inode_plan.specs.Lists.{HasRoots, SpareFits}
use Rattle.inode_plan.specs.RunPlaces.{ArePlaced}
use Rattle.inode_plan.proofs.Listed.{few_lists}
use Rattle.inode_plan.proofs.PlacesFit.{placed_below}
use Rattle.relocation.proofs.Basics.{slot_with}
use Rattle.relocation.proofs.new_inode.moved_inode.Goals as goal

pub images_of-requires : goal.images_of-requires
images_of-requires c t =
    let f = c.args.file.now in
    let m = c.put_runs.new.map in
    let placed : ArePlaced f.run.first c.args.to (blocks_of (runs_of c.args.taken.now c.args.to)) f.map m = subst (λ rs. ArePlaced f.run.first c.args.to (blocks_of rs) f.map m) c.runs_of.ensures c.in_ok-put_runs.ensures in
    let below : LieBelow FILE_BLOCKS m = placed_below f.run.first c.args.to (blocks_of (runs_of c.args.taken.now c.args.to)) f.map m placed FILE_BLOCKS c.requires.few c.requires.below in
    few_lists c.args.inode m t (in_tier c.in_ok-lists.lists t) (c.in_ok-lists.ensures.lists t) (c.few_blocks_are_few_runs.ensures.few FILE_BLOCKS (runs_in m t) (c.in_ok-lists.ensures.normal t) (λ k p at. below t k (ap is_some at)))

pub returns-clause-made : goal.returns-clause-made
returns-clause-made c =
    let f = c.args.file.now in
    let m = c.put_runs.new.map in
    let x = c.slot_for-slot.result in
    let lists = c.in_ok-lists.lists in (
      x,
      record {
        lists = lists;
        placed = subst (λ rs. ArePlaced f.run.first c.args.to (blocks_of rs) f.map m) c.runs_of.ensures c.in_ok-put_runs.ensures;
        normal = c.in_ok-lists.ensures.normal;
        are_lists = c.in_ok-lists.ensures.lists;
        roots = subst (λ n. HasRoots lists n f.slot x) c.spare_of.ensures c.slot_for-slot.ensures.roots;
        slot_is = slot_with f.slot x c.requires.is_file (c.slot_for-slot.ensures.same (λ k. [])) c.slot_for-slot.ensures.touch;
        limits = λ g fits spare. c.slot_for-slot.ensures.fits g fits (subst (λ n. SpareFits g f.slot lists n) (sym c.spare_of.ensures) spare);
        slots_are = first_of (search rules, grind (arith, common_steps));
        images = c.in_ok-nodes.ensures;
        left_is = c.in_ok-left.ensures.blocks;
        left_some = c.in_ok-left.ensures.some;
        left_few = c.in_ok-left.ensures.few;
      },
    )
