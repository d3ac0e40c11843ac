use Rattle.std.proofs.Common.{ap}
use Rattle.area_reader.specs.layout.declared.slot.Slot.TheVariants as slots
use Rattle.area_reader.specs.tree_blocks.Inode.{Inode}
use Rattle.area_reader.specs.Store.{inode}
use Rattle.area_commit.proofs.Freeing.{free_fits}
use Rattle.area_commit.proofs.change_laws.written_free_slot_is_inode_after.Goals as goal

pub returns : goal.returns
returns c = record {
  fit = λ g m none. free_fits m none g;
  after = λ g d old new i m allowed number none written bare. c.rewritten_inode_is_inode_after.ensures.none i d (inode g old i) (inode g new i) bare (ap (λ (v : Inode). v.kind) (c.written_inode_is_read.ensures.inodes g new i slots.Free m allowed number (free_fits m none g) written));
}
