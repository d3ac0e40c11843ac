use Rattle.layout.specs.LentEntry.{owned_entry}
use Rattle.tree_blocks.specs.Directory.{numbered_blocks}
use Rattle.tree_blocks.proofs.Lists.{absent_in, more_filled}
use Rattle.tree_blocks.proofs.entry_blocks.fill_block.Goals as goal

pub add_entry-requires-clause-new : goal.add_entry-requires-clause-new
add_entry-requires-clause-new c = absent_in c.requires.directory.0 c.args.count (numbered_blocks c.args.blocks.now) c.requires.directory.1 c.args.entry.name.now c.requires.new c.requires.room

pub returns : goal.returns
returns c = record {
  more = λ owner is. more_filled owner c.args.count c.args.blocks.now is c.add_entry.new.block c.add_entry.ensures.entries c.requires.long (owned_entry c.args.entry) c.requires.new c.requires.room c.add_entry.ensures.added;
}
