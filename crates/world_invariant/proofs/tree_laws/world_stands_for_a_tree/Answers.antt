use Rattle.call_effects.proofs.WellFormed.{well_formed}
use Rattle.call_effects.proofs.Limits.{seen_within}
use Rattle.world_invariant.specs.World.{whole_graph, held_descriptors}
use Rattle.world_invariant.proofs.Facts.{whole_within}
use Rattle.world_invariant.proofs.Within.{tree_within}
use Rattle.world_invariant.proofs.tree_laws.world_stands_for_a_tree.Goals as goal

pub returns-clause-well_formed : goal.returns-clause-well_formed
returns-clause-well_formed c = λ w h. well_formed (whole_graph w) (held_descriptors w) h.sound

pub returns-clause-within : goal.returns-clause-within
returns-clause-within c = λ w h. seen_within (whole_graph w) (held_descriptors w) (tree_within (whole_graph w) (held_descriptors w) h.sound (whole_within w h))
