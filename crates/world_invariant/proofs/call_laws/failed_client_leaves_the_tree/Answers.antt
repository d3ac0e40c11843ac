use Rattle.world_invariant.specs.World.{Failed}
use Rattle.std.proofs.Common.{refl}
use Rattle.world_invariant.proofs.Begins.{turned_holds, turned_tree}
use Rattle.world_invariant.proofs.call_laws.failed_client_leaves_the_tree.Goals as goal

pub returns-clause-holds : goal.returns-clause-holds
returns-clause-holds c = λ w d h can. turned_holds w d Failed h can.client refl (λ off. absurd (off refl))

pub returns-clause-tree : goal.returns-clause-tree
returns-clause-tree c = λ w d h can. turned_tree w d Failed h can.client refl (λ off. absurd (off refl))
