use Rattle.std.proofs.Common.{◌∙◌, sym, arith}
use Rattle.std.proofs.lemmas.Grind.{common_steps}
use Rattle.script.proofs.Parts.{parts_step, parts_last}
use Rattle.script.proofs.words.cut.Goals as goal

pub returns-in-Some-clause-found : goal.returns-in-Some-clause-found
returns-in-Some-clause-found c = grind (arith, common_steps, parts_step c.args.byte c.args.text.now c.in-Some.at (sym c.place_of.ensures ∙ c.in-Some.is))

pub returns-in-None-clause-whole : goal.returns-in-None-clause-whole
returns-in-None-clause-whole c = λ _. parts_last c.args.byte c.args.text.now (sym c.place_of.ensures ∙ c.in-None.is)
