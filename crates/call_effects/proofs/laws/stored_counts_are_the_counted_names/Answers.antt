use Rattle.call_effects.proofs.Changes.{fair_of}
use Rattle.call_effects.proofs.Views.{views_same}
use Rattle.call_effects.proofs.laws.stored_counts_are_the_counted_names.Goals as goal

pub returns : goal.returns
returns c = λ g held sound. views_same g held (fair_of g held sound)
