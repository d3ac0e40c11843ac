use Rattle.inode_plan.specs.graph_change.View.{change_of}
use Rattle.inode_plan.specs.area_reader.Store.{Store, disk, inode}
use Rattle.change_plan.proofs.FewEntries.{few_after}
use Rattle.change_plan.proofs.directory_part.directory_change.Goals as goal

pub change_directory-requires-clause-entries : goal.change_directory-requires-clause-entries
change_directory-requires-clause-entries g c = c.bounded_entries_lead_to_inodes.ensures (change_of c.args.changed.now.change.now) c.requires.bounded

pub change_directory-requires-clause-few : goal.change_directory-requires-clause-few
change_directory-requires-clause-few g c =
    let old = c.args.journal.now in
    let s : Store = disk g.M.Media old in
    let starts = c.in_ok-start.ensures.started in
    few_after (change_of c.args.changed.now.change.now) (inode old.geometry s c.args.changed.now.inode) c.in_ok-start.start.entries starts.kind_is starts.entries_are c.requires.entries

pub returns-clause-changed : goal.returns-clause-changed
returns-clause-changed g c = record {
  start = c.in_ok-start.start;
  starts = c.in_ok-start.ensures.started;
  sound = c.in_ok-start.ensures.sound;
  changed = c.in_ok-directory.ensures.changed;
  few = c.in_ok-directory.ensures.few;
}
