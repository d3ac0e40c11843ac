use Rattle.layout.proofs.DirChanges.{listed_now}
use Rattle.layout.proofs.dir_changes.remove_entry.Goals as goal

pub place_of-requires-clause-listed : goal.place_of-requires-clause-listed
place_of-requires-clause-listed c = listed_now c.args.block.now c.requires.entries
