use Rattle.batch_journal.proofs.Opens.{one_name, no_volume}
use Rattle.batch_journal.proofs.laws.damage_has_one_name.Goals as goal

pub returns : goal.returns
returns c = record { one = one_name; none = no_volume }
