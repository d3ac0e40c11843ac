use Rattle.std.proofs.Common.{arith}
use Rattle.std.proofs.lemmas.Grind.{common_steps}
use Rattle.script.proofs.Paths.{is_some-decoded, is_some-end}
use Rattle.script.proofs.path_text.is_readable.Goals as goal

pub loop-behind-preserved : goal.loop-behind-preserved
loop-behind-preserved c = grind (arith, common_steps, is_some-decoded c.loop-behind.rest.now c.in-Some.field-0-0 c.in-Some.behind.now)

pub returns : goal.returns
returns c = grind (arith, common_steps, is_some-end c.loop-behind.rest.now)
