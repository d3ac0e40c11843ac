use Rattle.call_effects.proofs.KnownCopies.{seen_after, known_alone, known_joined, swaps_known}
use Rattle.call_effects.proofs.known_laws.known_nodes_are_so_after_effects.Goals as goal

pub returns-clause-seen : goal.returns-clause-seen
returns-clause-seen c = λ g es known seen swaps. seen_after es known g seen swaps

pub returns-clause-alone : goal.returns-clause-alone
returns-clause-alone c = known_alone

pub returns-clause-join : goal.returns-clause-join
returns-clause-join c = known_joined

pub returns-clause-swaps : goal.returns-clause-swaps
returns-clause-swaps c = swaps_known
