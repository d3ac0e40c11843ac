use Rattle.std.proofs.Common.{◌∙◌, ap, sym}
use Rattle.std.specs.Prelude.{Some, option_map}
use Rattle.script.specs.Script.{parts}
use Rattle.script.specs.SystemLines.{asks, asks_either}
use Rattle.script.proofs.Parts.{asks-parts}
use Rattle.script.proofs.system_line.read_asked.Goals as goal

pub returns-in-None : goal.returns-in-None
returns-in-None c =
    let word = c.in-Some.word.now in
    let words = c.in-Some.words.now in
    let none = c.in-None.ensures in
    c.call_line.ensures ∙ ap (option_map Some) (sym (ap asks c.in-Some.ensures.found ∙ asks-parts word words ∙ ap (λ e. asks_either e word (parts 32 words)) (sym none)))
