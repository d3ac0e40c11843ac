use Rattle.std.proofs.Common.{◌∙◌}
use Rattle.call_effects.specs.file_graph.Graph.{fresh}
use Rattle.call_effects.proofs.Fresh.{fresh_sound, fresh_state}
use Rattle.world_invariant.proofs.Fresh.{fresh_within}
use Rattle.world_invariant.proofs.Idle.{idle_holds, idle_tree}
use Rattle.world_invariant.proofs.opening_laws.opening_world_holds.Goals as goal

pub returns-clause-holds : goal.returns-clause-holds
returns-clause-holds c = λ capacity fits. idle_holds capacity fresh fits fresh_sound fresh_within

pub returns-clause-tree : goal.returns-clause-tree
returns-clause-tree c = λ capacity. idle_tree capacity fresh ∙ fresh_state
