use Rattle.std.proofs.lemmas.Bool.Decides.{Decides-eqb}
use Rattle.std.proofs.lemmas.Slice.Eq.{strip_prefix_is}
use Rattle.layout.proofs.Fields.{text_is}
use Rattle.layout.proofs.field_reads.text_of.Goals as goal

pub returns : goal.returns
returns c = text_is c.args.text.now c.args.bytes.now c.strip_prefix.result (strip_prefix_is Decides-eqb c.args.bytes.now c.args.text.now c.strip_prefix.result c.strip_prefix.ensures.cases)
