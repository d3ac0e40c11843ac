use Rattle.fuse_server.specs.declared.answer.Answer.TheVariants as answer
use Rattle.fuse_server.proofs.TimeLemmas.{done_so}
use Rattle.fuse_server.proofs.requests.serve_nodes.Goals as goal

pub returns-in-MkDir-clause-serves : goal.returns-in-MkDir-clause-serves
returns-in-MkDir-clause-serves g c = rw c.in-MkDir.is (c.make_dir.result, c.make_dir.ensures.asked, c.entry_answer.ensures)

pub returns-in-Link-clause-serves : goal.returns-in-Link-clause-serves
returns-in-Link-clause-serves g c = rw c.in-Link.is (c.link.result, c.link.ensures.asked, c.entry_answer-in-Link.ensures)

pub returns-in-Write-clause-serves : goal.returns-in-Write-clause-serves
returns-in-Write-clause-serves g c = rw c.in-Write.is (c.write.result, c.write.ensures.asked, c.count_answer.ensures)

pub returns-in-Lookup-clause-times : goal.returns-in-Lookup-clause-times
returns-in-Lookup-clause-times g c = rw c.in-Lookup.is c.look_up.ensures.times

pub returns-in-GetAttr-clause-times : goal.returns-in-GetAttr-clause-times
returns-in-GetAttr-clause-times g c = rw c.in-GetAttr.is c.describe.ensures.times

pub returns-in-MkDir-clause-times : goal.returns-in-MkDir-clause-times
returns-in-MkDir-clause-times g c =
    rw c.in-MkDir.is (c.make_dir.ensures.times, done_so answer.Entry c.make_dir.result c.entry_answer.result _ c.entry_answer.ensures c.make_dir.ensures.made)

pub returns-in-RmDir-clause-times : goal.returns-in-RmDir-clause-times
returns-in-RmDir-clause-times g c =
    rw c.in-RmDir.is (c.remove_dir.ensures.times.goes, done_so (λ _. answer.Done) c.remove_dir.result c.done_answer.result _ c.done_answer.ensures c.remove_dir.ensures.left)

pub returns-in-Unlink-clause-times : goal.returns-in-Unlink-clause-times
returns-in-Unlink-clause-times g c =
    rw c.in-Unlink.is (c.unlink.ensures.times.goes, done_so (λ _. answer.Done) c.unlink.result c.done_answer-in-Unlink.result _ c.done_answer-in-Unlink.ensures c.unlink.ensures.left)

pub returns-in-Link-clause-times : goal.returns-in-Link-clause-times
returns-in-Link-clause-times g c =
    let ends = c.entry_answer-in-Link.ensures in
    rw c.in-Link.is (
      (c.link.ensures.times.goes, done_so answer.Entry c.link.result c.entry_answer-in-Link.result _ ends c.link.ensures.entered),
      done_so answer.Entry c.link.result c.entry_answer-in-Link.result _ ends c.link.ensures.named,
    )

pub returns-in-Write-clause-times : goal.returns-in-Write-clause-times
returns-in-Write-clause-times g c =
    rw c.in-Write.is (c.write.ensures.times.goes, done_so answer.Count c.write.result c.count_answer.result _ c.count_answer.ensures c.write.ensures.written)
