use Rattle.std.proofs.Common.{ap, ◌∙◌}
use Rattle.layout.specs.Bytes.{with_text}
use Rattle.layout.proofs.Blocks.{over_zeros}
use Rattle.layout.proofs.entry.put_name.Goals as goal

pub returns : goal.returns
returns c = c.put.ensures ∙ ap (with_text c.args.at c.args.name.now) c.put_zeros.ensures ∙ over_zeros 64 c.args.at c.args.name.now c.args.block.now c.requires.within c.requires.short
