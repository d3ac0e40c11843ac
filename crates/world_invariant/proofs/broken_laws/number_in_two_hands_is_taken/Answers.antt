use Rattle.world_invariant.proofs.BrokenWorlds.{twice_begun, twice_taken}
use Rattle.world_invariant.proofs.AloneBooks.{twice_alone}
use Rattle.world_invariant.proofs.broken_laws.number_in_two_hands_is_taken.Goals as goal

pub returns-clause-alone : goal.returns-clause-alone
returns-clause-alone c = twice_alone

pub returns-clause-begun : goal.returns-clause-begun
returns-clause-begun c = twice_begun

pub returns-clause-taken : goal.returns-clause-taken
returns-clause-taken c = twice_taken
