use Rattle.call_effects.proofs.Changes.{fair_of}
use Rattle.call_effects.proofs.KnownTold.{part_is}
use Rattle.call_effects.proofs.known_laws.part_is_of_the_whole.Goals as goal

pub returns : goal.returns
returns c = λ k g held sound agrees. part_is k g held (fair_of g held sound) agrees
