use Rattle.std.proofs.Common.{refl}
use Rattle.area_commit.specs.tree_blocks.After.{start_node}
use Rattle.area_commit.specs.area_reader.Store.{inode}
use Rattle.inode_plan.proofs.Stores.{as_changed}
use Rattle.inode_plan.proofs.file_laws.planned_file_is_written.Goals as goal

pub returns : goal.returns
returns c g change old new i x before after numbers places bytes is_file slot_is starts once are is enough holds has = record {
  is_file = is_file;
  slot_is = slot_is;
  blocks = as_changed g change old new i before after numbers places bytes (start_node change.base (inode g old i)).blocks starts once are is enough holds has (λ k. refl);
}
