use Rattle.batch_journal.specs.layout.declared.error.What.TheVariants as what
use Rattle.area_reader.proofs.Twins.{not_read}
use Rattle.area_reader.proofs.entries.is_part.Goals as goal

pub returns-in-Err : goal.returns-in-Err
returns-in-Err c = λ part. not_read what.DirBlock c.args.at c.args.block.now c.in-Err.field-0 part.entries c.in-Err.ensures.read
