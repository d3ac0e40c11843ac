use Rattle.area_reader.proofs.Looked.{looks_ok, looks_fault}
use Rattle.area_reader.proofs.block_reads.read_home.Goals as goal

pub returns-in-Ok-clause-looks : goal.returns-in-Ok-clause-looks
returns-in-Ok-clause-looks g c =
    let m = g.M.Media in
    looks_ok m c.args.journal.now c.image.new.self tt c.image.ensures.unmoved c.image.ensures.geometry c.in-Ok.ensures.quiet c.in-Ok.ensures.going

pub returns-in-Err-clause-looks : goal.returns-in-Err-clause-looks
returns-in-Err-clause-looks g c =
    let m = g.M.Media in
    looks_fault m c.args.journal.now c.image.new.self c.image.ensures.unmoved c.image.ensures.geometry c.image.ensures.faults c.image.ensures.one_fault c.in-Err.ensures.fault (λ was. (c.image.ensures.stays_failed was).1)
