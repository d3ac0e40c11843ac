use Rattle.std.proofs.Common.{List, [], ap, ◌∙◌}
use Rattle.std.specs.Int.{bit_at}
use Rattle.std.proofs.lemmas.List.{append-nil}
use Rattle.std.proofs.lemmas.Nat.Bits.{bit_at-zero}
use Rattle.lease_manager.specs.History.{Entry, unheard}
use Rattle.lease_manager.proofs.Waiting.{asked_among}
use Rattle.lease_manager.proofs.laws.waiting_question_was_asked.Goals as goal

pub returns : goal.returns
returns c steps word bit one = asked_among steps [] word bit (bit_at-zero bit) (ap (λ (l : List Entry). bit_at (unheard word l) bit) (append-nil steps) ∙ one)
