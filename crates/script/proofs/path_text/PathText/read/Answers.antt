use Rattle.std.proofs.Common.{arith}
use Rattle.std.proofs.lemmas.Grind.{common_steps}
use Rattle.script.specs.Script.{path_bytes}
use Rattle.script.proofs.Paths.{or_empty-some, none-is}
use Rattle.script.proofs.path_text.PathText.read.Goals as goal

pub returns-then-not-is_readable : goal.returns-then-not-is_readable
returns-then-not-is_readable c = grind (arith, common_steps, none-is (path_bytes c.args.text.now))

pub returns : goal.returns
returns c = grind (arith, common_steps, or_empty-some (path_bytes c.args.text.now))
