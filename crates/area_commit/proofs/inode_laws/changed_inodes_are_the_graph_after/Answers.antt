use Rattle.std.proofs.Common.{sym, ◌∙◌}
use Rattle.area_reader.specs.Store.{inode}
use Rattle.area_commit.proofs.TakenPlaces.{all_consistent, alike_same}
use Rattle.area_commit.proofs.inode_laws.changed_inodes_are_the_graph_after.Goals as goal

pub returns : goal.returns
returns c g cs rewritten old new before is keys after = (c.inodes_after_are_graph_after.ensures cs (inode g old) (inode g new) (all_consistent g old before.inodes) (record {
  changed = λ i there. after i (sym (keys i) ∙ there);
  others = λ i none. alike_same (inode g old i) (inode g new i) (c.rewritten_inodes_are_spelled.ensures.others g rewritten old new is i (sym (keys i) ∙ none));
})).0
