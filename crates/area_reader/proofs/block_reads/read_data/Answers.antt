use Rattle.std.proofs.Common.{◌*◌, ◌∙◌, ap}
use Rattle.batch_journal.specs.Images.{slice}
use Rattle.area_reader.proofs.Looked.{looks_ok, looks_fault}
use Rattle.area_reader.proofs.block_reads.read_data.Goals as goal

pub returns-in-Ok-clause-looks : goal.returns-in-Ok-clause-looks
returns-in-Ok-clause-looks g c =
    let m = g.M.Media in
    looks_ok m c.args.journal.now c.read.new.self tt c.read.ensures.unmoved c.read.ensures.geometry c.in-Ok.ensures.quiet c.in-Ok.ensures.going

pub returns-in-Err-clause-looks : goal.returns-in-Err-clause-looks
returns-in-Err-clause-looks g c =
    let m = g.M.Media in
    looks_fault m c.args.journal.now c.read.new.self c.read.ensures.unmoved c.read.ensures.geometry c.read.ensures.faults c.read.ensures.one_fault c.in-Err.ensures.fault (λ was. (c.read.ensures.stays_failed was).1)

pub returns-in-Ok-clause-bytes : goal.returns-in-Ok-clause-bytes
returns-in-Ok-clause-bytes g c = c.in-Ok.ensures.bytes ∙ ap (λ n. slice (4096 * c.args.block) n (g.M.Media.seen c.args.journal.now.media c.args.tier)) c.requires.size
