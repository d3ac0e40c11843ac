use Rattle.posix_calls.specs.Run.{without_client}
use Rattle.call_effects.proofs.Settled.{fewer_sound, left_sound, fewer_state, left_state, left_well_formed, left_within, without_fewer}
use Rattle.call_effects.proofs.closed_graph_laws.graph_without_a_client_is_sound.Goals as goal

pub returns-clause-closed : goal.returns-clause-closed
returns-clause-closed c = λ g held client sound. fewer_sound g held sound (without_client held client) (without_fewer held client)

pub returns-clause-sound : goal.returns-clause-sound
returns-clause-sound c = λ g held client sound. left_sound g held sound (without_client held client) (without_fewer held client)

pub returns-clause-closed_state : goal.returns-clause-closed_state
returns-clause-closed_state c = λ g held client sound. fewer_state g held sound (without_client held client) (without_fewer held client)

pub returns-clause-state : goal.returns-clause-state
returns-clause-state c = λ g held client sound. left_state g held sound (without_client held client) (without_fewer held client)

pub returns-clause-well_formed : goal.returns-clause-well_formed
returns-clause-well_formed c = λ g held client sound. left_well_formed g held sound (without_client held client) (without_fewer held client)

pub returns-clause-within : goal.returns-clause-within
returns-clause-within c = λ g held client sound. left_within g held sound (without_client held client) (without_fewer held client)
