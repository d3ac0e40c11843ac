use Rattle.fuse_server.specs.declared.answer.Answer.TheVariants as answer
use Rattle.fuse_server.proofs.TimeLemmas.{done_so}
use Rattle.fuse_server.proofs.requests.serve_name.Goals as goal

pub returns-in-Create-clause-serves : goal.returns-in-Create-clause-serves
returns-in-Create-clause-serves g c =
    let made = rw c.creation_by.ensures at c.create.ensures.asked in
    rw c.in-Create.is (c.create.result, made, c.create_answer.ensures)

pub returns-in-MkNod-clause-serves : goal.returns-in-MkNod-clause-serves
returns-in-MkNod-clause-serves g c = rw c.in-MkNod.is (c.make_node.result, c.make_node.ensures.makes, c.entry_answer.ensures)

pub returns-in-Rename-clause-serves : goal.returns-in-Rename-clause-serves
returns-in-Rename-clause-serves g c = rw c.in-Rename.is (c.rename.result, c.rename.ensures.renames, c.done_answer.ensures)

pub returns-in-Rename2-clause-serves : goal.returns-in-Rename2-clause-serves
returns-in-Rename2-clause-serves g c = rw c.in-Rename2.is (c.rename-in-Rename2.result, (c.rename-in-Rename2.ensures.renames, c.rename-in-Rename2.ensures.unexchanged), c.done_answer-in-Rename2.ensures)

pub returns-in-Create-clause-times : goal.returns-in-Create-clause-times
returns-in-Create-clause-times g c =
    rw c.in-Create.is (c.create.ensures.times, done_so answer.Created c.create.result c.create_answer.result _ c.create_answer.ensures c.create.ensures.made)

pub returns-in-MkNod-clause-times : goal.returns-in-MkNod-clause-times
returns-in-MkNod-clause-times g c =
    rw c.in-MkNod.is (c.make_node.ensures.times, done_so answer.Entry c.make_node.result c.entry_answer.result _ c.entry_answer.ensures c.make_node.ensures.made)

pub returns-in-Rename-clause-times : goal.returns-in-Rename-clause-times
returns-in-Rename-clause-times g c = rw c.in-Rename.is c.rename.ensures.times.goes

pub returns-in-Rename2-clause-times : goal.returns-in-Rename2-clause-times
returns-in-Rename2-clause-times g c = rw c.in-Rename2.is c.rename-in-Rename2.ensures.times.goes
