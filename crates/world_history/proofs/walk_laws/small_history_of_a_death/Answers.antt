use Rattle.std.proofs.Common.{refl}
use Rattle.world_history.proofs.SmallHistories.{small_is, small_run, start_holds}
use Rattle.world_history.proofs.walk_laws.small_history_of_a_death.Goals as goal

pub returns-clause-begins : goal.returns-clause-begins
returns-clause-begins r = start_holds

pub returns-clause-follows : goal.returns-clause-follows
returns-clause-follows r = small_is

pub returns-clause-run : goal.returns-clause-run
returns-clause-run r = small_run

pub returns-clause-seen : goal.returns-clause-seen
returns-clause-seen r = refl
