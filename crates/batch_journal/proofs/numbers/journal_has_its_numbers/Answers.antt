use Rattle.std.proofs.Common.{refl}
use Rattle.batch_journal.specs.Images.{image_count, target_at}
use Rattle.batch_journal.proofs.numbers.journal_has_its_numbers.Goals as goal

pub returns-clause-count : goal.returns-clause-count
unfolding image_count target_at
returns-clause-count c = refl

pub returns-clause-first_number : goal.returns-clause-first_number
unfolding image_count target_at
returns-clause-first_number c = refl

pub returns-clause-second_number : goal.returns-clause-second_number
unfolding image_count target_at
returns-clause-second_number c = refl
