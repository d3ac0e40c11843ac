use Rattle.std.proofs.Common.{List, ap, ◌∙◌}
use Rattle.std.specs.Int.{bit_at}
use Rattle.lease_manager.specs.History.{Entry, unheard}
use Rattle.lease_manager.proofs.Waiting.{waits_on}
use Rattle.lease_manager.proofs.laws.asked_question_waits.Goals as goal

pub returns : goal.returns
returns c steps word bit w = ap (λ (l : List Entry). bit_at (unheard word l) bit) w.4 ∙ waits_on w.0 w.1 w.2 word w.3 bit w.5 w.6
