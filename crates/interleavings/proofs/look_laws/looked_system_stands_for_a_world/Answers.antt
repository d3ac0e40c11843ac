use Rattle.interleavings.proofs.LookedWorlds.{looked_tree, looked_world}
use Rattle.interleavings.proofs.look_laws.looked_system_stands_for_a_world.Goals as goal

pub returns-clause-world : goal.returns-clause-world
returns-clause-world g c = λ v new result stands leaves answers book opening seats. looked_world g.M.Media v new result stands leaves answers book seats

pub returns-clause-tree : goal.returns-clause-tree
returns-clause-tree g c = λ v new result answers seats. looked_tree g.M.Media v new result answers seats
