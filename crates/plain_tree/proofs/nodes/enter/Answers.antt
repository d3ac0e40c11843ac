use Rattle.std.proofs.Common.{Some}
use Rattle.std.specs.FinMap as fin
use Rattle.std.proofs.lemmas.Result.{on_ok_weaker}
use Rattle.posix_calls.specs.Tree.{Dir, entries_of}
use Rattle.plain_tree.specs.Plain.{stored_tree}
use Rattle.plain_tree.proofs.Slots.{tree_written}
use Rattle.plain_tree.proofs.nodes.enter.Goals as goal

pub returns-clause-ok : goal.returns-clause-ok
returns-clause-ok c =
    on_ok_weaker c.enter.result
    (λ e. tree_written c.make_room.new.nodes.items (stored_tree c.args.nodes.now.items) c.args.at.parent (λ o. Some (Dir (fin.insert (entries_of o) c.args.at.name c.args.inode))) c.index_mut.result.now c.enter.new.self c.in_ok-make_room.ensures.room c.make_room.ensures.tree c.index_mut.ensures.value e) c.enter.ensures.ok
