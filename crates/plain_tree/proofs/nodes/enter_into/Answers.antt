use Rattle.std.proofs.Common.{Some, refl}
use Rattle.std.specs.FinMap as fin
use Rattle.posix_calls.specs.Tree.{Dir, entries_of}
use Rattle.plain_tree.specs.Plain.{stored_tree}
use Rattle.plain_tree.proofs.Slots.{tree_written}
use Rattle.plain_tree.proofs.nodes.enter_into.Goals as goal

pub returns : goal.returns
returns c =
    tree_written c.args.nodes.now.items (stored_tree c.args.nodes.now.items) c.args.at.parent (λ o. Some (Dir (fin.insert (entries_of o) c.args.at.name c.args.inode))) c.index_mut.result.now c.enter_into.new.self c.requires.place refl c.index_mut.ensures.value c.enter_into.ensures
