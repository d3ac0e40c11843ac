use Rattle.client_view.proofs.Buffers.{resizes}
use Rattle.client_view.proofs.blocks.cut_or_grow.Goals as goal

pub returns : goal.returns
returns c = resizes c.args.buffer.now c.grow.new.buffer c.args.len c.args.end c.requires.within c.grow.ensures
