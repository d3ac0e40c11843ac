use Rattle.std.proofs.Common.{arith}
use Rattle.std.proofs.lemmas.Grind.{common_steps}
use Rattle.script.proofs.Parts.{four-first}
use Rattle.script.proofs.words.four_words.Goals as goal

pub returns : goal.returns
returns c = grind (arith, common_steps, four-first, c.in_ok-first.ensures.found, c.three_words.ensures)
