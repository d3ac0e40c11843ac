use Rattle.batch_journal.proofs.Images.{number_is}
use Rattle.batch_journal.proofs.head.number_in.Goals as goal

pub returns : goal.returns
returns c = number_is c.args.bytes.now c.args.place c.read_u32.result c.read_u32.ensures
