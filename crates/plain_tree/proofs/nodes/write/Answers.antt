use Rattle.std.proofs.Common.{Some}
use Rattle.std.proofs.lemmas.Result.{on_ok_weaker}
use Rattle.posix_calls.specs.Content.{with_bytes}
use Rattle.posix_calls.specs.Tree.{File, bytes_of}
use Rattle.plain_tree.specs.Plain.{stored_tree}
use Rattle.plain_tree.proofs.Slots.{tree_written}
use Rattle.plain_tree.proofs.nodes.write.Goals as goal

pub returns-clause-ok : goal.returns-clause-ok
returns-clause-ok c =
    on_ok_weaker c.write.result
    (λ e. tree_written c.make_room.new.nodes.items (stored_tree c.args.nodes.now.items) c.args.inode (λ o. Some (File (with_bytes c.args.at c.args.bytes.now (bytes_of o)))) c.index_mut.result.now c.write.new.self c.in_ok-make_room.ensures.room c.make_room.ensures.tree c.index_mut.ensures.value e) c.write.ensures.ok
