use Rattle.std.proofs.Common.{ap, length, refl, arith}
use Rattle.inode_plan.specs.layout.Places.{tier_blocks, data_first}
use Rattle.inode_plan.proofs.area_reader_lemmas.Shown.{slot_limits}
use Rattle.inode_plan.specs.area_commit.Allocations.{runs_of}
use Rattle.relocation.proofs.Fresh.{ends_below}
use Rattle.relocation.proofs.Planned.{tier_fits, is_move_plan}
use Rattle.relocation.proofs.move_plan.plan_move.Goals as goal

pub moved_inode-requires-clause-is_file : goal.moved_inode-requires-clause-is_file
moved_inode-requires-clause-is_file c = c.requires.3.run.file.within_file.kind_is

pub moved_inode-requires-clause-places : goal.moved_inode-requires-clause-places
moved_inode-requires-clause-places c =
    let g = c.requires.0 in
    let to = c.args.moved.to in
    ends_below (data_first g to) (tier_blocks g to) (runs_of c.args.taken to) (tier_fits g to c.requires.2) (c.requires.3.took.free.apart to)

pub moved_inode-requires-clause-few : goal.moved_inode-requires-clause-few
moved_inode-requires-clause-few c =
    let file = c.requires.3.run.file in
    let few = (slot_limits c.requires.0 c.args.moved.file.slot file.fits).few in
    let within = file.within_file.within in
    let many = c.requires.3.took.many in
    omega (arith, few, within, many)

pub moved_inode-requires-clause-below : goal.moved_inode-requires-clause-below
moved_inode-requires-clause-below c t k some =
    let file = c.requires.3.run.file in
    let few = (slot_limits c.requires.0 c.args.moved.file.slot file.fits).few in
    let low = file.below t k some in
    omega (arith, few, low)

pub returns-in-Ok-clause-plan : goal.returns-in-Ok-clause-plan
returns-in-Ok-clause-plan c g s ready =
    let out = c.rewrite_of.ensures in
    record {
      file = c.args.moved.file;
      slot = c.in-Ok.ensures.made.0;
      map = c.moved_inode.new.file.map;
      is_plan = is_move_plan g s c.args.moved.inode c.args.moved.to c.args.moved.file c.args.moved.bytes.items c.args.moved.lost c.args.taken ready c.in-Ok.ensures.made.0 c.moved_inode.new.file.map c.in-Ok.new.slots.items c.in-Ok.new.nodes c.in-Ok.new.left.items c.rewrite_of.result c.in-Ok.ensures.made.1
          out.slots out.marks out.nodes out.taken out.bytes out.left out.lost;
      first_is = refl;
      count_is = refl;
    }

pub returns-in-Ok-clause-few : goal.returns-in-Ok-clause-few
returns-in-Ok-clause-few c =
    let few = c.in-Ok.ensures.made.1.left_few in
    let left = ap length c.rewrite_of.ensures.left in
    omega (arith, few, left)
