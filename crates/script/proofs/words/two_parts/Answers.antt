use Rattle.std.proofs.Common.{arith}
use Rattle.std.proofs.lemmas.Grind.{common_steps}
use Rattle.script.proofs.Parts.{two-parts}
use Rattle.script.proofs.words.two_parts.Goals as goal

pub returns-then-is_some : goal.returns-then-is_some
returns-then-is_some c = grind (arith, common_steps, two-parts, c.in_ok-first.ensures.found, c.cut-2.ensures.found, c.if-is_some.ensures)
