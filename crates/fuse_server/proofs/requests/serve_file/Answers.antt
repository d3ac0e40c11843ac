use Rattle.fuse_server.specs.declared.answer.Answer.TheVariants as answer
use Rattle.fuse_server.proofs.TimeLemmas.{done_so}
use Rattle.fuse_server.proofs.requests.serve_file.Goals as goal

pub returns-in-Read-clause-serves : goal.returns-in-Read-clause-serves
returns-in-Read-clause-serves g c = rw c.in-Read.is (c.read.result, c.read.ensures.asked, c.data_answer.ensures)

pub returns-in-SetAttr-clause-times : goal.returns-in-SetAttr-clause-times
returns-in-SetAttr-clause-times g c =
    let ends = c.attributes_answer.ensures in
    let set = c.set_attributes.ensures in
    rw c.in-SetAttr.is (
      set.times,
      (λ done. (
        (λ some. done_so answer.Attributes c.set_attributes.result c.attributes_answer.result _ ends (set.written some) done),
        done_so answer.Attributes c.set_attributes.result c.attributes_answer.result _ ends set.set done,
      )),
      set.kept,
    )

pub returns-in-Open-clause-times : goal.returns-in-Open-clause-times
returns-in-Open-clause-times g c = rw c.in-Open.is c.open.ensures.times

pub returns-in-Read-clause-times : goal.returns-in-Read-clause-times
returns-in-Read-clause-times g c = rw c.in-Read.is c.read.ensures.times

pub returns-in-Release-clause-times : goal.returns-in-Release-clause-times
returns-in-Release-clause-times g c = rw c.in-Release.is c.release.ensures.times
