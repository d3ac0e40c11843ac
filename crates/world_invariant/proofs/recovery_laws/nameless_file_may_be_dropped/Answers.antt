use Rattle.world_invariant.proofs.Recoveries.{dropped_sound, dropped_within, dropped_charge, dropped_state}
use Rattle.world_invariant.proofs.recovery_laws.nameless_file_may_be_dropped.Goals as goal

pub returns-clause-sound : goal.returns-clause-sound
returns-clause-sound c = dropped_sound

pub returns-clause-within : goal.returns-clause-within
returns-clause-within c = dropped_within

pub returns-clause-charged : goal.returns-clause-charged
returns-clause-charged c = dropped_charge

pub returns-clause-state : goal.returns-clause-state
returns-clause-state c = dropped_state
