use Rattle.std.proofs.Common.{Err}
use Rattle.shared_area.specs.area_reader.declared.error.AreaError.TheVariants as errors
use Rattle.shared_area.proofs.area_reader_lemmas.Looked.{looks_answer, looks_other, looks_err}
use Rattle.digester.proofs.run_test.test_over.Goals as goal

pub returns-in-Ok-clause-looks : goal.returns-in-Ok-clause-looks
returns-in-Ok-clause-looks g c =
    let m = g.M.Media in
    looks_answer m c.args.area.now c.test_records.new.nodes tt c.in-Ok.found (c.in-Ok.ensures.answered.led c.requires.going).0

pub returns-in-Err-Memory-clause-looks : goal.returns-in-Err-Memory-clause-looks
returns-in-Err-Memory-clause-looks g c =
    let m = g.M.Media in
    let told = rw c.in-Err-Memory.field-0-is at c.in-Err-Memory.ensures.refused in
    looks_other m c.args.area.now c.test_records.new.nodes tt (Err errors.Memory) (told.led c.requires.going).0 (λ e. cc)

pub returns-in-Err-Nodes-clause-only : goal.returns-in-Err-Nodes-clause-only
returns-in-Err-Nodes-clause-only g c = let told = rw c.in-Err-Nodes.field-0-is at c.in-Err-Nodes.ensures.refused in (told.led c.requires.going).1

pub returns-in-Err-Nodes-clause-looks : goal.returns-in-Err-Nodes-clause-looks
returns-in-Err-Nodes-clause-looks g c =
    let m = g.M.Media in
    let told = rw c.in-Err-Nodes.field-0-is at c.in-Err-Nodes.ensures.refused in
    looks_err m c.args.area.now c.test_records.new.nodes c.in-Err-Nodes.error (told.led c.requires.going).0
