use Rattle.world_invariant.proofs.PairWalks.{can_give, two_hold, outcomes, written_if, made_if, written_step, beside_holds, still_begun, made_step, both_hold, first_digests, second_digests}
use Rattle.world_invariant.proofs.walk_laws.small_world_of_two_clients.Goals as goal

pub returns-clause-given : goal.returns-clause-given
returns-clause-given c = can_give

pub returns-clause-begun : goal.returns-clause-begun
returns-clause-begun c = two_hold

pub returns-clause-stopped : goal.returns-clause-stopped
returns-clause-stopped c = outcomes

pub returns-clause-byte : goal.returns-clause-byte
returns-clause-byte c = written_if

pub returns-clause-directory : goal.returns-clause-directory
returns-clause-directory c = made_if

pub returns-clause-written : goal.returns-clause-written
returns-clause-written c = written_step

pub returns-clause-beside : goal.returns-clause-beside
returns-clause-beside c = beside_holds

pub returns-clause-still : goal.returns-clause-still
returns-clause-still c = still_begun

pub returns-clause-made : goal.returns-clause-made
returns-clause-made c = made_step

pub returns-clause-sealed : goal.returns-clause-sealed
returns-clause-sealed c = both_hold

pub returns-clause-first : goal.returns-clause-first
returns-clause-first c = first_digests

pub returns-clause-second : goal.returns-clause-second
returns-clause-second c = second_digests
