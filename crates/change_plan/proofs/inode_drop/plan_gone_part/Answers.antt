use Rattle.std.proofs.Common.{[], refl, sym, append-nil}
use Rattle.inode_plan.specs.layout.declared.slot.Slot.TheVariants as slots
use Rattle.block_alloc.specs.Runs.{blocks_of}
use Rattle.inode_plan.specs.area_reader.Store.{Store, disk}
use Rattle.change_plan.specs.PlanAddition.{no_runs}
use Rattle.change_plan.specs.Directory.{of_nodes}
use Rattle.change_plan.proofs.inode_drop.plan_gone_part.Goals as goal

pub returns-clause-part : goal.returns-clause-part
returns-clause-part g c d touch places none =
    let old = c.args.journal.now in
    let s : Store = disk g.M.Media old in
    let adds = c.in_ok-give_all.ensures.adds in
    record {
      x = slots.Free;
      m = no_runs;
      share = of_nodes [];
      bytes = [];
      lost = adds.lost;
      part = c.gone_inode_is_a_part.ensures old.geometry s d touch c.args.inode c.args.plan.now.nodes adds.lost none adds.all;
      nodes = sym (append-nil (blocks_of c.args.plan.now.taken.nodes.items));
      data_are = refl;
      slots_are = c.in_ok-push_slot.ensures;
      bytes_are = sym (append-nil c.args.plan.now.bytes.items);
      lost_are = adds.both;
    }
