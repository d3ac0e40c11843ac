use Rattle.world_history.proofs.Entries.{entries_are}
use Rattle.world_history.proofs.part_laws.entries_are_listed_twice.Goals as goal

pub returns : goal.returns
returns r c h is = entries_are c is h
