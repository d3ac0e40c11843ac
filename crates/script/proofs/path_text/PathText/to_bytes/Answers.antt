use Rattle.std.proofs.Common.{arith}
use Rattle.std.proofs.lemmas.Grind.{common_steps}
use Rattle.script.proofs.Paths.{behind-decoded, decoded-end}
use Rattle.script.specs.Script.{path_bytes}
use Rattle.script.proofs.path_text.PathText.to_bytes.Goals as goal

pub loop-byte-preserved : goal.loop-byte-preserved
loop-byte-preserved c = grind (arith, common_steps, behind-decoded c.loop-byte.bytes.items c.loop-byte.rest.now c.in-Some.byte c.in-Some.behind.now)

pub returns : goal.returns
returns c = grind (arith, common_steps, decoded-end c.loop-byte.rest.now (path_bytes c.args.self.now.text.now) c.loop-byte.bytes.items)
