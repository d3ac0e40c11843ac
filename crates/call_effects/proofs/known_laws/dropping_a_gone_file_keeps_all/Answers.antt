use Rattle.call_effects.proofs.Unused.{same_state, sound_still, agrees_still}
use Rattle.call_effects.proofs.known_laws.dropping_a_gone_file_keeps_all.Goals as goal

pub returns-clause-state : goal.returns-clause-state
returns-clause-state c = same_state

pub returns-clause-sound : goal.returns-clause-sound
returns-clause-sound c = λ g held i sound unused. sound_still g held i unused sound

pub returns-clause-agreement : goal.returns-clause-agreement
returns-clause-agreement c = λ k g held i unused agrees. agrees_still g held i unused k agrees
